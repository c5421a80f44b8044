-- A date with a part that is not finite is refused: with 6, as its sum is not in the range. Assumes nothing.
use mathlib.Core.Path.{◌≡◌, refl, subst}
use mathlib.Core.Bool.{Bool, true, false, ◌&&◌}
use lib.Dec.{T}
use lib.Ieee.{Float}
use lib.Ieee.Fits.{and_i}
use lib.Ieee.Scale.{finite}
use Rattle.refusals.specs.Outcome.{refusal}
use Rattle.julian.specs.day_number.DayNumber.{accepted}
use Rattle.julian.specs.day_number.Answer.{day_number_and_fraction}
use Rattle.julian.proofs.day_number.JulianRange.{accepted-finite}
use Rattle.julian.proofs.day_number.Answer.{refused}

pub not_finite : (x y : Float) → (finite x && finite y) ≡ false → day_number_and_fraction x y ≡ refusal 6
not_finite x y h = go (accepted x y) refl
  where
    go : (b : Bool) → accepted x y ≡ b → day_number_and_fraction x y ≡ refusal 6
    go false e = refused x y e
    go true e = let f = accepted-finite x y e in absurd (subst T h (and_i (finite x) (finite y) f.0 f.1))
