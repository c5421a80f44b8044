-- Which bytes of the lent lists are whose, after a run of readings is placed: the eight bytes of each reading, and its number. Assumes nothing.
use Prim.Native.Nat.{ℕ, zero, suc, ◌+◌, ◌-◌, ◌*◌, ◌<◌, ◌≤◌}
use native.Mathlib.Omega.{arith}
use native.Mathlib.Nat.{eq-or-lt_of_le}
use mathlib.Core.Path.{◌≡◌, refl, sym, ap, ◌∙◌}
use mathlib.Core.Bool.{cond}
use mathlib.Core.Logic.{◌⊎◌, inl, inr}
use mathlib.Core.List.{List, [], ◌∷◌, ◌++◌, append_assoc}
use lib.Dec.{eqb}
use lib.ListN.{length, get_or, take, drop, set, length-drop, take-append-drop}
use lib.Seq.{sets, take_at, drop_at, drop-drop, take-append-le, drop-append-le, length-take-le, take-suc-set, get_or-set_same, get_or-set_other}
use borrow.Author.Tests.{ne_eqb}
use Rattle.refusals.specs.Outcome.{Outcome, answer, refusal}
use Rattle.numerals.specs.little_endian.LittleEndian.{eight_bytes}
use Rattle.ticks.specs.places.Places.{number_of, with_place, with_places, with_reading_numbers, without_place}
use Rattle.ticks.proofs.Puts.{put, put-drop}
use Rattle.ticks.proofs.places.Puts.{places-length, numbers-length}
use Rattle.ticks.specs.laws.Readings.{not_zeros}

-- the eight bytes of reading i
abbrev pub block : ℕ → List ℕ → List ℕ
block i l = take 8 (drop (8 * i) l)

-- ---- a number put at reading n
cut : (a b : List ℕ) (i : ℕ) → 8 * i + 8 ≤ length a → block i (a ++ b) ≡ block i a
cut a b i h = ap (take 8) (drop-append-le (8 * i) a b (omega arith)) ∙ take-append-le 8 (drop (8 * i) a) b (omega (arith, length-drop (8 * i) a))

module _ (l : List ℕ) (n v : ℕ) (h : 8 * n + 8 ≤ length l) where
  abbrev rest : List ℕ
  rest = eight_bytes v ++ drop (8 * n + 8) l

  is : sets l (8 * n) (eight_bytes v) ≡ take (8 * n) l ++ rest
  is = put l (8 * n) v h ∙ append_assoc (take (8 * n) l) (eight_bytes v) (drop (8 * n + 8) l)

  len : length (take (8 * n) l) ≡ 8 * n
  len = length-take-le (8 * n) l (omega arith)

  put_same : block n (sets l (8 * n) (eight_bytes v)) ≡ eight_bytes v
  put_same = ap (block n) is ∙ ap (take 8) (drop_at (take (8 * n) l) rest (8 * n) len) ∙ take_at (eight_bytes v) (drop (8 * n + 8) l) 8 refl

  put-before : (i : ℕ) → i < n → block i (sets l (8 * n) (eight_bytes v)) ≡ block i l
  put-before i g =
      ap (block i) is ∙ cut (take (8 * n) l) rest i (omega (arith, len)) ∙ sym (cut (take (8 * n) l) (drop (8 * n) l) i (omega (arith, len)))
      ∙ ap (block i) (take-append-drop (8 * n) l)

  put-behind : (x : ℕ) → 8 * n + 8 ≤ x → drop x (sets l (8 * n) (eight_bytes v)) ≡ drop x l
  put-behind x g =
      let e : 8 * n + 8 + (x - (8 * n + 8)) ≡ x = omega arith in
      ap (λ (k : ℕ). drop k (sets l (8 * n) (eight_bytes v))) (sym e) ∙ sym (drop-drop (x - (8 * n + 8)) (8 * n + 8) (sets l (8 * n) (eight_bytes v)))
      ∙ ap (drop (x - (8 * n + 8))) (put-drop l (8 * n) v h) ∙ drop-drop (x - (8 * n + 8)) (8 * n + 8) l
      ∙ ap (λ (k : ℕ). drop k l) e

-- ---- the answer of reading n put
abbrev pub due : Outcome ℕ → List ℕ → List ℕ
due (answer v) b = eight_bytes v
due (refusal k) b = b

one : (o : Outcome ℕ) (n : ℕ) (l : List ℕ) → 8 * n + 8 ≤ length l → block n (with_place o n l) ≡ due o (block n l)
unfolding with_place
one (answer v) n l h = put_same l n v h
one (refusal k) n l h = refl

one-before : (o : Outcome ℕ) (n : ℕ) (l : List ℕ) → 8 * n + 8 ≤ length l → (i : ℕ) → i < n → block i (with_place o n l) ≡ block i l
unfolding with_place
one-before (answer v) n l h i g = put-before l n v h i g
one-before (refusal k) n l h i g = refl

one-behind : (o : Outcome ℕ) (n : ℕ) (l : List ℕ) → 8 * n + 8 ≤ length l → (x : ℕ) → 8 * n + 8 ≤ x → drop x (with_place o n l) ≡ drop x l
unfolding with_place
one-behind (answer v) n l h x g = put-behind l n v h x g
one-behind (refusal k) n l h x g = refl

-- ---- the answers of the first n readings
module _ (f : ℕ → Outcome ℕ) (l : List ℕ) where
  pub places_behind : (n : ℕ) → 8 * n ≤ length l → (x : ℕ) → 8 * n ≤ x → drop x (with_places f n l) ≡ drop x l
  unfolding with_places
  places_behind zero h x g = refl
  places_behind (suc n) h x g =
      one-behind (f n) n (with_places f n l) (omega (arith, places-length f n l)) x (omega arith) ∙ places_behind n (omega arith) x (omega arith)

  pub places-at : (n : ℕ) → 8 * n ≤ length l → (i : ℕ) → i < n → block i (with_places f n l) ≡ due (f i) (block i l)
  unfolding with_places
  places-at zero h i g = absurd (omega arith)
  places-at (suc n) h i g = go (eq-or-lt_of_le (omega arith)) (places-at n (omega arith) i)
    where
      room : 8 * n + 8 ≤ length (with_places f n l)
      room = omega (arith, places-length f n l)

      go : (i ≡ n) ⊎ (i < n) → (i < n → block i (with_places f n l) ≡ due (f i) (block i l))
          → block i (with_place (f n) n (with_places f n l)) ≡ due (f i) (block i l)
      go (inl e) before = rw e
          (one (f n) n (with_places f n l) room ∙ ap (λ (b : List ℕ). due (f n) (take 8 b)) (places_behind n (omega arith) (8 * n) (omega arith)))
      go (inr m) before = one-before (f n) n (with_places f n l) room i m ∙ before m

  -- ---- the numbers
  pub number-at : (n : ℕ) → n ≤ length l → (i : ℕ) → i < n → get_or (with_reading_numbers f n l) i 0 ≡ number_of (f i)
  unfolding with_reading_numbers
  number-at zero h i g = absurd (omega arith)
  number-at (suc n) h i g = go (eq-or-lt_of_le (omega arith)) (number-at n (omega arith) i)
    where
      go : (i ≡ n) ⊎ (i < n) → (i < n → get_or (with_reading_numbers f n l) i 0 ≡ number_of (f i))
          → get_or (set (with_reading_numbers f n l) n (number_of (f n))) i 0 ≡ number_of (f i)
      go (inl e) before = rw e (get_or-set_same (with_reading_numbers f n l) n (number_of (f n)) 0 (omega (arith, numbers-length f n l)))
      go (inr m) before = get_or-set_other (with_reading_numbers f n l) n i (number_of (f n)) 0 (λ e. omega arith) ∙ before m

  -- the count is of the numbers that are not 0
  pub counted : (n : ℕ) → n ≤ length l → not_zeros (take n (with_reading_numbers f n l)) ≡ without_place f n
  unfolding with_reading_numbers without_place not_zeros
  counted zero h = refl
  counted (suc n) h =
      ap not_zeros (take-suc-set (with_reading_numbers f n l) n (number_of (f n)) (omega (arith, numbers-length f n l)))
      ∙ one_more (take n (with_reading_numbers f n l)) (number_of (f n))
      ∙ ap (λ (x : ℕ). x + cond (eqb (number_of (f n)) 0) 0 1) (counted n (omega arith))
    where
      one_more : (a : List ℕ) (v : ℕ) → not_zeros (a ++ (v ∷ [])) ≡ not_zeros a + cond (eqb v 0) 0 1
      one_more [] zero = refl
      one_more [] (suc v) = rw (ne_eqb (suc v) 0 (λ e. omega arith))
      one_more (zero ∷ a) v = one_more a v
      one_more (suc x ∷ a) v = ap suc (one_more a v) ∙ omega arith
