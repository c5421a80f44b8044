-- A date with its smaller part changed. Written from the Rust's `map_smaller_part` (julian/mod.rs); document 01, "Scale dates": on equal sizes jd1 changes.
-- Assumes nothing.
use Rattle.std.specs.Prelude.{Bool, true, false, Float}
use Rattle.std.specs.Float.Ieee.{lt}
use Rattle.floats.specs.Whole.{abs}
use Rattle.julian.specs.declared.JulianDate.{JulianDate}
use Rattle.julian.specs.declared.shifts.smaller_part.Parts.{Parts}

-- whether jd1 is the larger part in size; on equal sizes it is not
unfoldable pub first_is_larger : JulianDate → Bool
first_is_larger d = lt (abs d.jd2) (abs d.jd1)

-- the larger part and the smaller one, where b says whether jd1 is the larger
abbrev pub parts_as : JulianDate → Bool → Parts
parts_as d true = record { larger = d.jd1; smaller = d.jd2 }
parts_as d false = record { larger = d.jd2; smaller = d.jd1 }

unfoldable pub parts_of : JulianDate → Parts
parts_of d = parts_as d (first_is_larger d)

-- the date with x for its smaller part
abbrev pub put_as : JulianDate → Float → Bool → JulianDate
put_as d x true = record { jd1 = d.jd1; jd2 = x }
put_as d x false = record { jd1 = x; jd2 = d.jd2 }

unfoldable pub put_back : JulianDate → Float → JulianDate
put_back d x = put_as d x (first_is_larger d)

-- the date with its smaller part changed by f, which is given the larger part first
unfoldable pub map_smaller_part : (Float → Float → Float) → JulianDate → JulianDate
map_smaller_part f d = put_back d (f (parts_of d).larger (parts_of d).smaller)
