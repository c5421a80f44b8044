-- The dates that the theorems on UTC and TAI speak of. Written from document 02's request 14: jd1 a multiple of 0.5 from 2441319.5 to 5000000.5, the days
-- 1972-01-03 to 8977-06-08, and jd2 at most 1 in size; and from document 01's stamps at 2400000.5. Assumes nothing.
use Rattle.std.specs.Prelude.{ℕ, ◌≤◌, T}
use Rattle.std.specs.Float.Ieee.{le}
use Rattle.floats.specs.Whole.{abs, one}
use Rattle.rounding.specs.Value.{Val}
use Rattle.constants.specs.Constants.{decimal}
use Rattle.julian.specs.declared.JulianDate.{JulianDate}
use Rattle.scales.specs.laws.Ranges.{Held}

-- jd1 is halves / 2 days, and jd2 is at most a day either way; both are f64's, -0.0 and subnormals among them
pub record HalfDaySplit (d : JulianDate) : Type 0 where
  pub held : Held d
  pub halves : ℕ
  pub first : Val d.jd1 halves 0 2
  pub low : 4882639 ≤ halves
  pub high : halves ≤ 10000001
  pub second : T (le (abs d.jd2) one)

-- the other way in which recorders divide a date: jd1 is 2400000.5, and jd2 a modified Julian date from 41318, 1972-01-02, to 131071, in the year 2217. A unit
-- in the last place of jd2 is then up to 1.26 microseconds
pub record ModifiedSplit (d : JulianDate) : Type 0 where
  pub held : Held d
  pub first : Val d.jd1 4800001 0 2
  pub from : T (le (decimal 41318 0) d.jd2)
  pub to : T (le (abs d.jd2) (decimal 131071 0))
