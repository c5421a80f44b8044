-- The readings of a run placed one after the other. Assumes nothing.
use Prim.Native.Nat.{ℕ, zero, suc, ◌+◌, ◌-◌, ◌*◌, ◌<◌, ◌≤◌}
use native.Mathlib.Omega.{arith}
use native.Mathlib.Nat.{le_refl}
use native.Mathlib.Numerals.{add-one}
use mathlib.Core.Path.{◌≡◌, refl, sym, ap, subst, ◌∙◌}
use mathlib.Core.Bool.{Bool, true, false, cond}
use mathlib.Core.List.{List}
use lib.Dec.{eqb}
use lib.ListN.{length, get_or, set, length-set}
use lib.Seq.{sets, length-sets, get_or-set_other}
use borrow.Author.Tests.{eq-eqb, ne_eqb, le-leb, lt-leb}
use Rattle.refusals.specs.Outcome.{Outcome, answer, refusal}
use Rattle.numerals.specs.little_endian.LittleEndian.{eight_bytes}
use Rattle.ticks.specs.judging.Refusing.{number_at, numbers_in}
use Rattle.ticks.specs.judging.GoodCalls.{GoodPasses}
use Rattle.ticks.specs.Passes.{Passes, millis_at}
use Rattle.ticks.specs.Ticks.{passes_of}
use Rattle.ticks.specs.places.Places.{within, placed_reading, number_of, with_place, with_places, with_reading_numbers, without_place}
use Rattle.ticks.specs.places.Asked.{ReadingPut, ReadingsPut}

-- ---- one reading
module _ (p : Passes) (number m : ℕ) where
  pub is-kept : (number ≡ 0 → ⊥) → placed_reading p number m ≡ refusal number
  unfolding placed_reading
  is-kept h = rw (ne_eqb number 0 h)

  module _ (z : number ≡ 0) where
    pub is-outside : within p m ≡ false → placed_reading p number m ≡ refusal 25
    unfolding placed_reading
    is-outside w = rw (eq-eqb number 0 z, w)

    pub is-placed : within p m ≡ true → placed_reading p number m ≡ answer (millis_at p m)
    unfolding placed_reading
    is-placed w = rw (eq-eqb number 0 z, w)

  module _ (k i r j : ℕ) (near : j ≤ k) (out : List ℕ) where
    pub put-without : placed_reading p number m ≡ refusal r → ReadingPut p k number m i out r j out
    unfolding number_of with_place
    put-without e = record { is = sym (ap number_of e); near = near; place = sym (ap (λ (o : Outcome ℕ). with_place o i out) e) }

    pub put-place : (out' : List ℕ) (place : ℕ) → placed_reading p number m ≡ answer place → out' ≡ sets out (8 * i) (eight_bytes place)
        → ReadingPut p k number m i out 0 j out'
    unfolding number_of with_place
    put-place out' place e h = record { is = sym (ap number_of e); near = near; place = h ∙ sym (ap (λ (o : Outcome ℕ). with_place o i out) e) }

-- whether a millisecond lies between the first pass and the last of k + 2
module _ (ps ls : List ℕ) (k : ℕ) (g : GoodPasses ps ls k) (first last m : ℕ) (from : first ≡ number_at ps 0) (to : last ≡ number_at ps (k + 1)) where
  last_is : last ≡ number_at ps (numbers_in ps - 1)
  last_is =
      let e : k + 1 ≡ numbers_in ps - 1 = omega (arith, g.size) in
      to ∙ ap (number_at ps) e

  pub too-early : m < first → within (passes_of ps ls) m ≡ false
  unfolding within
  too-early h = rw (lt-leb (number_at ps 0) m (omega arith))

  module _ (l : first ≤ m) where
    pub too_late : last < m → within (passes_of ps ls) m ≡ false
    unfolding within
    too_late h = rw (le-leb (number_at ps 0) m (omega arith)) (lt-leb m (number_at ps (numbers_in ps - 1)) (omega (arith, last_is)))

    pub between : m ≤ last → within (passes_of ps ls) m ≡ true
    unfolding within
    between h = rw (le-leb (number_at ps 0) m (omega arith)) (le-leb m (number_at ps (numbers_in ps - 1)) (omega (arith, last_is)))

-- ---- a run
pub place-length : (o : Outcome ℕ) (i : ℕ) (l : List ℕ) → length (with_place o i l) ≡ length l
unfolding with_place
place-length (answer place) i l = length-sets l (8 * i) (eight_bytes place)
place-length (refusal k) i l = refl

pub places-length : (f : ℕ → Outcome ℕ) (n : ℕ) (l : List ℕ) → length (with_places f n l) ≡ length l
unfolding with_places
places-length f zero l = refl
places-length f (suc n) l = place-length (f n) n (with_places f n l) ∙ places-length f n l

pub numbers-length : (f : ℕ → Outcome ℕ) (n : ℕ) (l : List ℕ) → length (with_reading_numbers f n l) ≡ length l
unfolding with_reading_numbers
numbers-length f zero l = refl
numbers-length f (suc n) l = length-set (with_reading_numbers f n l) n (number_of (f n)) ∙ numbers-length f n l

-- the numbers from place n on are as they were
pub later-number : (f : ℕ → Outcome ℕ) (n : ℕ) (l : List ℕ) (i : ℕ) → n ≤ i → get_or (with_reading_numbers f n l) i 0 ≡ get_or l i 0
unfolding with_reading_numbers
later-number f zero l i h = refl
later-number f (suc n) l i h = get_or-set_other (with_reading_numbers f n l) n i (number_of (f n)) 0 (λ e. omega arith) ∙ later-number f n l i (omega arith)

one_at_most : (b : Bool) → cond b 0 1 ≤ 1
one_at_most true = omega arith
one_at_most false = omega arith

pub at_most : (f : ℕ → Outcome ℕ) (n : ℕ) → without_place f n ≤ n
unfolding without_place
at_most f zero = omega arith
at_most f (suc n) = omega (arith, at_most f n, one_at_most (eqb (number_of (f n)) 0))

-- i readings of n are placed, j is the last neighbour, and reading i has yet the number that it came with
pub record Putting (f : ℕ → Outcome ℕ) (n k : ℕ) (out₀ ns₀ out ns : List ℕ) (without j i : ℕ) : Type 0 where
  pub high : i ≤ n
  pub near : j ≤ k
  pub put : ReadingsPut f i out₀ ns₀ without out ns
  pub out-length : length out ≡ length out₀
  pub ns_length : length ns ≡ length ns₀
  pub few : without ≤ i
  pub number-yet : get_or ns i 0 ≡ get_or ns₀ i 0

module _ (f : ℕ → Outcome ℕ) (n k : ℕ) (out₀ ns₀ : List ℕ) where
  putting : (out ns : List ℕ) (without j i : ℕ) → i ≤ n → j ≤ k → ReadingsPut f i out₀ ns₀ without out ns → Putting f n k out₀ ns₀ out ns without j i
  putting out ns without j i h near p = record {
    high = h;
    near = near;
    put = p;
    out-length = ap length p.places ∙ places-length f i out₀;
    ns_length = ap length p.numbers ∙ numbers-length f i ns₀;
    few = omega (arith, p.count, at_most f i);
    number-yet = ap (λ (l : List ℕ). get_or l i 0) p.numbers ∙ later-number f i ns₀ i (le_refl i);
  }

  pub putting_starts : Putting f n k out₀ ns₀ out₀ ns₀ 0 0 0
  unfolding with_places with_reading_numbers without_place
  putting_starts = putting out₀ ns₀ 0 0 0 (omega arith) (omega arith) (record { count = refl; places = refl; numbers = refl })

  module _ (out ns : List ℕ) (without j i : ℕ) (p : Putting f n k out₀ ns₀ out ns without j i) where
    pub putting_goes : (q : Passes) (m : ℕ) → placed_reading q (get_or ns i 0) m ≡ f i → (out' : List ℕ) (r j' without' : ℕ) → i < n
        → ReadingPut q k (get_or ns i 0) m i out r j' out' → without' ≡ without + cond (eqb r 0) 0 1
        → Putting f n k out₀ ns₀ out' (set ns i r) without' j' (i + 1)
    unfolding with_places with_reading_numbers without_place
    putting_goes q m is out' r j' without' h s e =
        subst (λ (x : ℕ). Putting f n k out₀ ns₀ out' (set ns i r) without' j' x) (sym (add-one i))
        (putting out' (set ns i r) without' j' (suc i) (omega arith) s.near
        (record {
          count = e ∙ (λ x. p.put.count x + ap (λ (y : ℕ). cond (eqb y 0) 0 1) number x);
          places = s.place ∙ (λ x. with_place (is x) i (p.put.places x));
          numbers = (λ x. set (p.put.numbers x) i (number x));
        }))
      where
        number : r ≡ number_of (f i)
        number = s.is ∙ ap number_of is

    pub putting_ends : n ≤ i → ReadingsPut f n out₀ ns₀ without out ns
    putting_ends h =
        let e : i ≡ n = omega (arith, p.high) in
        subst (λ (x : ℕ). ReadingsPut f x out₀ ns₀ without out ns) e p.put
