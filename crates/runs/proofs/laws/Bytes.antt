-- Which bytes of a run's slices are whose. Assumes nothing.
use Prim.Native.Nat.{ℕ, zero, suc, ◌+◌, ◌*◌, ◌<◌, ◌≤◌}
use native.Mathlib.Omega.{arith}
use native.Mathlib.Nat.{eq-or-lt_of_le}
use mathlib.Core.Path.{◌≡◌, refl, sym, ap, ◌∙◌}
use mathlib.Core.Logic.{◌⊎◌, inl, inr}
use mathlib.Core.Bool.{cond}
use mathlib.Core.List.{List}
use lib.Dec.{eqb}
use lib.ListN.{length, get_or, set}
use lib.Seq.{get_or-set_same, get_or-set_other}
use lib.Ieee.{Float, binary64, to_bits}
use Rattle.refusals.specs.Outcome.{Outcome, answer, refusal}
use Rattle.numerals.specs.little_endian.LittleEndian.{eight_bytes}
use Rattle.numerals.proofs.little_endian.SetBytes.{set_outside, set_inside}
use Rattle.julian.specs.declared.JulianDate.{JulianDate}
use Rattle.runs.specs.by_formula.Run.{number_byte, with_part, with_parts, with_numbers, refused_among}
use Rattle.runs.proofs.by_formula.Puts.{parts-length, numbers-length}
use Rattle.runs.specs.laws.NotFiniteStamps.{not_zero_in}

-- ---- one part of the dates
module _ (part : JulianDate → Float) where
  part-outside : (o : Outcome JulianDate) (i : ℕ) (l : List ℕ) (j : ℕ) → (j < 8 * i) ⊎ (8 * i + 8 ≤ j) → get_or (with_part part o i l) j 0 ≡ get_or l j 0
  unfolding with_part
  part-outside (answer d) i l j h = set_outside (eight_bytes (to_bits binary64 (part d))) l (8 * i) j h
  part-outside (refusal n) i l j h = refl

  module _ (f : ℕ → Outcome JulianDate) (l : List ℕ) where
    pub parts-beyond : (n j : ℕ) → 8 * n ≤ j → get_or (with_parts part f n l) j 0 ≡ get_or l j 0
    unfolding with_parts
    parts-beyond zero j h = refl
    parts-beyond (suc n) j h = part-outside (f n) n (with_parts part f n l) j (inr (omega arith)) ∙ parts-beyond n j (omega arith)

    -- the last stamp that was put, or one before it
    answered-step : (n i k : ℕ) (d : JulianDate) → (i ≡ n) ⊎ (i < n) → k < 8 → 8 * suc n ≤ length l → f i ≡ answer d
        → (i < n → get_or (with_parts part f n l) (8 * i + k) 0 ≡ get_or (eight_bytes (to_bits binary64 (part d))) k 0)
        → get_or (with_part part (f n) n (with_parts part f n l)) (8 * i + k) 0 ≡ get_or (eight_bytes (to_bits binary64 (part d))) k 0
    unfolding with_part
    answered-step n i k d (inl q) b room e before =
        let g : f n ≡ answer d = ap f (sym q) ∙ e in
        let h : 8 * n + 8 ≤ length (with_parts part f n l) = omega (arith, parts-length part f n l) in
        rw (q, g) (set_inside (eight_bytes (to_bits binary64 (part d))) (with_parts part f n l) (8 * n) k h b)
    answered-step n i k d (inr m) b room e before = part-outside (f n) n (with_parts part f n l) (8 * i + k) (inl (omega arith)) ∙ before m

    pub answered-at : (n i k : ℕ) (d : JulianDate) → i < n → k < 8 → 8 * n ≤ length l → f i ≡ answer d
        → get_or (with_parts part f n l) (8 * i + k) 0 ≡ get_or (eight_bytes (to_bits binary64 (part d))) k 0
    unfolding with_parts
    answered-at zero i k d h b room e = let w : ⊥ = omega arith in absurd w
    answered-at (suc n) i k d h b room e = answered-step n i k d (eq-or-lt_of_le (omega arith)) b room e (λ m. answered-at n i k d m b (omega arith) e)

    refused-step : (n i k r : ℕ) → (i ≡ n) ⊎ (i < n) → k < 8 → f i ≡ refusal r
        → (i < n → get_or (with_parts part f n l) (8 * i + k) 0 ≡ get_or l (8 * i + k) 0)
        → get_or (with_part part (f n) n (with_parts part f n l)) (8 * i + k) 0 ≡ get_or l (8 * i + k) 0
    unfolding with_part
    refused-step n i k r (inl q) b e before =
        let g : f n ≡ refusal r = ap f (sym q) ∙ e in
        rw (q, g) (parts-beyond n (8 * n + k) (omega arith))
    refused-step n i k r (inr m) b e before = part-outside (f n) n (with_parts part f n l) (8 * i + k) (inl (omega arith)) ∙ before m

    pub refused-at : (n i k r : ℕ) → i < n → k < 8 → f i ≡ refusal r → get_or (with_parts part f n l) (8 * i + k) 0 ≡ get_or l (8 * i + k) 0
    unfolding with_parts
    refused-at zero i k r h b e = let w : ⊥ = omega arith in absurd w
    refused-at (suc n) i k r h b e = refused-step n i k r (eq-or-lt_of_le (omega arith)) b e (λ m. refused-at n i k r m b e)

-- ---- the numbers
module _ (f : ℕ → Outcome JulianDate) (l : List ℕ) where
  pub numbers-beyond : (n j : ℕ) → n ≤ j → get_or (with_numbers f n l) j 0 ≡ get_or l j 0
  unfolding with_numbers
  numbers-beyond zero j h = refl
  numbers-beyond (suc n) j h = get_or-set_other (with_numbers f n l) n j (number_byte (f n)) 0 (λ e. let w : ⊥ = omega arith in w)
      ∙ numbers-beyond n j (omega arith)

  number_step : (n i : ℕ) → (i ≡ n) ⊎ (i < n) → suc n ≤ length l → (i < n → get_or (with_numbers f n l) i 0 ≡ number_byte (f i))
      → get_or (set (with_numbers f n l) n (number_byte (f n))) i 0 ≡ number_byte (f i)
  number_step n i (inl q) room before = rw q (get_or-set_same (with_numbers f n l) n (number_byte (f n)) 0 (omega (arith, numbers-length f n l)))
  number_step n i (inr m) room before = get_or-set_other (with_numbers f n l) n i (number_byte (f n)) 0 (λ e. let w : ⊥ = omega arith in w) ∙ before m

  pub number-at : (n i : ℕ) → i < n → n ≤ length l → get_or (with_numbers f n l) i 0 ≡ number_byte (f i)
  unfolding with_numbers
  number-at zero i h room = let w : ⊥ = omega arith in absurd w
  number-at (suc n) i h room = number_step n i (eq-or-lt_of_le (omega arith)) room (λ m. number-at n i m (omega arith))

  -- the count is of the numbers that are not 0
  pub counted : (n m : ℕ) → m ≤ n → n ≤ length l → refused_among f m ≡ not_zero_in m (with_numbers f n l)
  unfolding refused_among not_zero_in
  counted n zero h room = refl
  counted n (suc m) h room = λ k. counted n m (omega arith) room k + cond (eqb (sym (number-at n m (omega arith) room) k) 0) 0 1
