-- Dates on demand 3's grid, and their exact sums. Written from demand 3: both parts multiples of 2 ^ -52 day under 2 ^ 52 days, the sum in document 01's range.
-- Assumes nothing.
use Rattle.std.specs.Prelude.{T, ℤ}
use Rattle.std.specs.Float.{binary64}
use Rattle.std.specs.Float.Ieee.{fits}
use Rattle.julian.specs.declared.JulianDate.{JulianDate}
use Rattle.julian.specs.day_number.ExactDay.{OnGrid, grid_sum, GridSumInRange}

pub record GridDate (d : JulianDate) : Type 0 where
  pub held1 : T (fits binary64 d.jd1)
  pub held2 : T (fits binary64 d.jd2)
  pub first : OnGrid d.jd1
  pub second : OnGrid d.jd2
  pub range : GridSumInRange (grid_sum first second)

-- the exact sum, in units of 2 ^ -52 day
abbrev pub sum_of : {d : JulianDate} → GridDate d → ℤ
sum_of g = grid_sum g.first g.second
