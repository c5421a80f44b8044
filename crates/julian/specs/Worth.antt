-- The exact number of days that a Julian date is worth. Written from document 01, "Julian date" and "Day and fraction": the exact sum of the two parts.
-- Assumes nothing.
use Rattle.std.specs.Prelude.{◌≡◌, ℕ, ◌+◌}
use Rattle.rounding.specs.Value.{Val, Under52}
use Rattle.julian.specs.declared.JulianDate.{JulianDate}

-- the exact sum of the parts is (P - N) / D
pub record Worth (d : JulianDate) (P N D : ℕ) : Type 0 where
  pub p : ℕ
  pub n : ℕ
  pub q : ℕ
  pub m : ℕ
  pub first : Val d.jd1 p n D
  pub second : Val d.jd2 q m D
  pub total : p + q + N ≡ P + (n + m)

-- document 01: "parts under 2^52 in size"
pub record SmallParts (d : JulianDate) : Type 0 where
  pub first : Under52 d.jd1
  pub second : Under52 d.jd2
