-- The outcome of a pair by the range test: an accepted pair is answered, and any other refused with 6. Assumes nothing.
use mathlib.Core.Path.{◌≡◌, refl, ap, sym, ◌∙◌}
use mathlib.Core.Bool.{Bool, true, false, cond}
use Prim.Native.Nat.{ℕ}
use native.Mathlib.Omega.{arith}
use lib.Ieee.{Float, binary64, add}
use Rattle.refusals.specs.Outcome.{answer, refusal}
use Rattle.julian.specs.declared.day_number.DayNumber.{DayNumber}
use Rattle.julian.specs.day_number.DayNumber.{in_julian_range, accepted, day_of}
use Rattle.julian.specs.day_number.Answer.{day_number_and_fraction}

pub answered : (x y : Float) → accepted x y ≡ true → day_number_and_fraction x y ≡ answer (day_of x y)
unfolding day_number_and_fraction
answered x y e = ap (λ (b : Bool). cond b (answer (day_of x y)) (refusal 6)) e

pub refused : (x y : Float) → accepted x y ≡ false → day_number_and_fraction x y ≡ refusal 6
unfolding day_number_and_fraction
refused x y e = ap (λ (b : Bool). cond b (answer (day_of x y)) (refusal 6)) e

-- the test as the code makes it
pub tested : (x y : Float) (b u : Bool) → b ≡ in_julian_range (add binary64 x y) → b ≡ u → accepted x y ≡ u
unfolding accepted
tested x y b u e f = sym e ∙ f

-- an answer is that of an accepted pair
pub answer-is : (x y : Float) (d : DayNumber) → day_number_and_fraction x y ≡ answer d → (accepted x y ≡ true) × (day_of x y ≡ d)
unfolding day_number_and_fraction
answer-is x y d = go (accepted x y)
  where
    go : (b : Bool) → cond b (answer (day_of x y)) (refusal 6) ≡ answer d → (b ≡ true) × (day_of x y ≡ d)
    go true e = (refl, cc)
    go false e = let w : ◌≡◌ {A = ℕ} 0 1 = cc in let z : ⊥ = omega arith in absurd z
