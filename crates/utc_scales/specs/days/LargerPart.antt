-- The larger part of a Julian date, which a conversion keeps, and the smaller one, which it changes. Written from document 01, "Scale dates": UTC to TAI and
-- back, and UT1 to UTC, change jd2 on equal sizes. Assumes nothing.
use Rattle.std.specs.Prelude.{Bool, true, false, Float}
use Rattle.std.specs.Float.Ieee.{le}
use Rattle.refusals.specs.Outcome.{Outcome, answer, onward}
use Rattle.floats.specs.Whole.{abs}
use Rattle.julian.specs.declared.JulianDate.{JulianDate}
use Rattle.julian.specs.JulianDate.{julian}
use Rattle.utc_scales.specs.declared.days.Parts.{Parts}

-- whether jd1 counts as the larger part in size; on equal sizes it does
unfoldable pub first_is_kept : JulianDate → Bool
first_is_kept d = le (abs d.jd2) (abs d.jd1)

abbrev pub kept_as : JulianDate → Bool → Parts
kept_as d true = record { larger = d.jd1; smaller = d.jd2; first = true }
kept_as d false = record { larger = d.jd2; smaller = d.jd1; first = false }

unfoldable pub kept_parts : JulianDate → Parts
kept_parts d = kept_as d (first_is_kept d)

-- the larger part in its place, and x for the smaller one
abbrev pub beside_as : Bool → Float → Float → JulianDate
beside_as true larger x = julian larger x
beside_as false larger x = julian x larger

unfoldable pub put_beside : Parts → Float → JulianDate
put_beside p x = beside_as p.first p.larger x

unfoldable pub placed : Parts → Float → Outcome JulianDate
placed p x = answer (put_beside p x)

-- the date with its smaller part changed by f, which is given the larger part first and may refuse
unfoldable pub change_smaller : (Float → Float → Outcome Float) → JulianDate → Outcome JulianDate
change_smaller f d = onward (f (kept_parts d).larger (kept_parts d).smaller) (placed (kept_parts d))
