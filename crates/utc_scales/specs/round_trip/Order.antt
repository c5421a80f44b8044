-- The order of stamps at their exact values, and what it is for a conversion to keep it. Written from document 01, "Scale dates": recorders' stamps are lined
-- up afterwards. Assumes nothing.
use Rattle.std.specs.Prelude.{◌≡◌, true, ℕ, ◌+◌, ◌*◌, ◌≤◌}
use Rattle.refusals.specs.Outcome.{Outcome, answer}
use Rattle.rounding.specs.Value.{L}
use Rattle.julian.specs.declared.JulianDate.{JulianDate}
use Rattle.julian.specs.Worth.{Worth}
use Rattle.rounding.specs.Picoseconds.{day_ps}
use Rattle.scales.specs.laws.Recorders.{NotLater}

-- d' is ps picoseconds or more after d; with 0, it is not before d
pub record Follows (ps : ℕ) (d d' : JulianDate) : Type 0 where
  pub p : ℕ
  pub n : ℕ
  pub p' : ℕ
  pub n' : ℕ
  pub from : Worth d p n L
  pub to : Worth d' p' n' L
  pub gap : day_ps * (p + n') + ps * L ≤ day_ps * (p' + n)

-- both dates are answered, and the second's answer is not before the first's
pub record OrderKept (f : JulianDate → Outcome JulianDate) (d d' : JulianDate) : Type 0 where
  pub x : JulianDate
  pub y : JulianDate
  pub first : f d ≡ answer x
  pub second : f d' ≡ answer y
  pub in_order : Follows 0 x y

-- both dates are answered, and the answers have one jd1 and jd2 in order, as floats
pub record PartsInOrder (f : JulianDate → Outcome JulianDate) (d d' : JulianDate) : Type 0 where
  pub x : JulianDate
  pub y : JulianDate
  pub first : f d ≡ answer x
  pub second : f d' ≡ answer y
  pub in_order : NotLater true x y
