-- Which bytes of a run's slices are whose. Assumes nothing.
use Prim.Native.Nat.{ℕ, zero, suc, ◌+◌, ◌*◌, ◌<◌, ◌≤◌}
use native.Mathlib.Omega.{arith}
use native.Mathlib.Nat.{eq-or-lt_of_le}
use mathlib.Core.Path.{◌≡◌, refl, sym, ap, ◌∙◌}
use mathlib.Core.Logic.{◌⊎◌, inl, inr}
use mathlib.Core.Bool.{cond}
use mathlib.Core.List.{List, [], ◌∷◌}
use lib.Dec.{eqb}
use lib.ListN.{length, get_or, set, length-set}
use lib.Seq.{sets, get_or-set_same, get_or-set_other}
use Rattle.refusals.specs.Outcome.{Outcome, answer, refusal}
use Rattle.numerals.specs.little_endian.LittleEndian.{eight_bytes}
use Rattle.since_launch.specs.Run.{millis_number_byte, with_millis, with_all, with_millis_numbers, millis_refused}
use Rattle.since_launch.specs.laws.RunDone.{millis_not_zero}
use Rattle.since_launch.proofs.Puts.{all-kept, numbers-kept}

-- ---- bytes set one after the other from index i on
outside : (vs l : List ℕ) (i j : ℕ) → (j < i) ⊎ (i + length vs ≤ j) → get_or (sets l i vs) j 0 ≡ get_or l j 0
outside [] l i j h = refl
outside (a ∷ vs) l i j h = outside vs (set l i a) (suc i) j (next h) ∙ get_or-set_other l i j a 0 (apart h)
  where
    next : (j < i) ⊎ (i + suc (length vs) ≤ j) → (j < suc i) ⊎ (suc i + length vs ≤ j)
    next (inl p) = inl (omega arith)
    next (inr p) = inr (omega arith)

    apart : (j < i) ⊎ (i + suc (length vs) ≤ j) → j ≡ i → ⊥
    apart (inl p) e = omega arith
    apart (inr p) e = omega arith

inside : (vs l : List ℕ) (i k : ℕ) → i + length vs ≤ length l → k < length vs → get_or (sets l i vs) (i + k) 0 ≡ get_or vs k 0
inside [] l i k h b = let w : ⊥ = omega arith in absurd w
inside (a ∷ vs) l i zero h b =
    let e : i + 0 ≡ i = omega arith in
    ap (λ (j : ℕ). get_or (sets (set l i a) (suc i) vs) j 0) e ∙ outside vs (set l i a) (suc i) i (inl (omega arith)) ∙ get_or-set_same l i a 0 (omega arith)
inside (a ∷ vs) l i (suc k) h b =
    let e : i + suc k ≡ suc i + k = omega arith in
    ap (λ (j : ℕ). get_or (sets (set l i a) (suc i) vs) j 0) e ∙ inside vs (set l i a) (suc i) k (omega (arith, length-set l i a)) (omega arith)

millis-outside : (o : Outcome ℕ) (i : ℕ) (l : List ℕ) (j : ℕ) → (j < 8 * i) ⊎ (8 * i + 8 ≤ j) → get_or (with_millis o i l) j 0 ≡ get_or l j 0
unfolding with_millis
millis-outside (answer m) i l j h = outside (eight_bytes m) l (8 * i) j h
millis-outside (refusal n) i l j h = refl

-- ---- the milliseconds f 0, f 1, ..
module _ (f : ℕ → Outcome ℕ) (l : List ℕ) where
  pub all-beyond : (n j : ℕ) → 8 * n ≤ j → get_or (with_all f n l) j 0 ≡ get_or l j 0
  unfolding with_all
  all-beyond zero j h = refl
  all-beyond (suc n) j h = millis-outside (f n) n (with_all f n l) j (inr (omega arith)) ∙ all-beyond n j (omega arith)

  -- what is found at byte k of place i, x, once stamp i is put, is found there at the end
  kept-to : (n i k x : ℕ) → k < 8 → i < n → get_or (with_all f (suc i) l) (8 * i + k) 0 ≡ x → get_or (with_all f n l) (8 * i + k) 0 ≡ x
  unfolding with_all
  kept-to zero i k x b h e = let w : ⊥ = omega arith in absurd w
  kept-to (suc n) i k x b h e = go (eq-or-lt_of_le (omega arith)) (λ m. kept-to n i k x b m e)
    where
      go : (i ≡ n) ⊎ (i < n) → (i < n → get_or (with_all f n l) (8 * i + k) 0 ≡ x) → get_or (with_millis (f n) n (with_all f n l)) (8 * i + k) 0 ≡ x
      go (inl q) before = ap (λ (m : ℕ). get_or (with_millis (f m) m (with_all f m l)) (8 * i + k) 0) (sym q) ∙ e
      go (inr m) before = millis-outside (f n) n (with_all f n l) (8 * i + k) (inl (omega arith)) ∙ before m

  module _ (n i k : ℕ) (h : i < n) (b : k < 8) where
    pub answered-at : (m : ℕ) → f i ≡ answer m → 8 * n ≤ length l → get_or (with_all f n l) (8 * i + k) 0 ≡ get_or (eight_bytes m) k 0
    unfolding with_all with_millis
    answered-at m e room =
        kept-to n i k (get_or (eight_bytes m) k 0) b h (rw e (inside (eight_bytes m) (with_all f i l) (8 * i) k (omega (arith, all-kept f i l)) b))

    pub refused-at : (r : ℕ) → f i ≡ refusal r → get_or (with_all f n l) (8 * i + k) 0 ≡ get_or l (8 * i + k) 0
    unfolding with_all with_millis
    refused-at r e = kept-to n i k (get_or l (8 * i + k) 0) b h (rw e (all-beyond i (8 * i + k) (omega arith)))

-- ---- the numbers
module _ (f : ℕ → Outcome ℕ) (l : List ℕ) where
  pub numbers-beyond : (n j : ℕ) → n ≤ j → get_or (with_millis_numbers f n l) j 0 ≡ get_or l j 0
  unfolding with_millis_numbers
  numbers-beyond zero j h = refl
  numbers-beyond (suc n) j h = get_or-set_other (with_millis_numbers f n l) n j (millis_number_byte (f n)) 0 (λ e. let w : ⊥ = omega arith in w)
      ∙ numbers-beyond n j (omega arith)

  number_step : (n i : ℕ) → (i ≡ n) ⊎ (i < n) → suc n ≤ length l → (i < n → get_or (with_millis_numbers f n l) i 0 ≡ millis_number_byte (f i))
      → get_or (set (with_millis_numbers f n l) n (millis_number_byte (f n))) i 0 ≡ millis_number_byte (f i)
  number_step n i (inl q) room before = rw q (get_or-set_same (with_millis_numbers f n l) n (millis_number_byte (f n)) 0 (omega (arith, numbers-kept f n l)))
  number_step n i (inr m) room before = get_or-set_other (with_millis_numbers f n l) n i (millis_number_byte (f n)) 0 (λ e. let w : ⊥ = omega arith in w)
      ∙ before m

  pub number-at : (n i : ℕ) → i < n → n ≤ length l → get_or (with_millis_numbers f n l) i 0 ≡ millis_number_byte (f i)
  unfolding with_millis_numbers
  number-at zero i h room = let w : ⊥ = omega arith in absurd w
  number-at (suc n) i h room = number_step n i (eq-or-lt_of_le (omega arith)) room (λ m. number-at n i m (omega arith))

  -- the count is of the numbers that are not 0
  pub counted : (n m : ℕ) → m ≤ n → n ≤ length l → millis_refused f m ≡ millis_not_zero m (with_millis_numbers f n l)
  unfolding millis_refused millis_not_zero
  counted n zero h room = refl
  counted n (suc m) h room = λ k. counted n m (omega arith) room k + cond (eqb (sym (number-at n m (omega arith) room) k) 0) 0 1
