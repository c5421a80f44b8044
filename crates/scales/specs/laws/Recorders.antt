-- What the recorders' stamps must keep: the order of two stamps that have the same larger part in the same place. That a stamp t by TAI and a stamp d by GPS
-- are of one instant to e picoseconds is `Means e tai_over_gps d t` (Meaning): to e, because no two dates in floats are exactly 19 s apart. Written from
-- document
-- 01, "Scale dates". Assumes nothing.
use Rattle.std.specs.Prelude.{◌≡◌, Bool, T}
use Rattle.std.specs.Float.Ieee.{le}
use Rattle.julian.specs.declared.JulianDate.{JulianDate}
use Rattle.julian.specs.shifts.SmallerPart.{parts_as}

-- d is not later than d', where b says whether jd1 is the larger part of both
pub record NotLater (b : Bool) (d d' : JulianDate) : Type 0 where
  pub larger : (parts_as d b).larger ≡ (parts_as d' b).larger
  pub smaller : T (le (parts_as d b).smaller (parts_as d' b).smaller)
