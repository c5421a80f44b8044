-- The parts of a date by which of them is the larger. Assumes nothing.
use mathlib.Core.Path.{◌≡◌, refl, ap}
use mathlib.Core.Bool.{Bool}
use lib.Ieee.{Float}
use Rattle.julian.specs.declared.JulianDate.{JulianDate}
use Rattle.julian.specs.shifts.SmallerPart.{first_is_larger, parts_as, parts_of, put_as, put_back, map_smaller_part}

pub parts_is : (d : JulianDate) (b : Bool) → b ≡ first_is_larger d → parts_as d b ≡ parts_of d
unfolding parts_of
parts_is d b h = ap (parts_as d) h

pub put_is : (d : JulianDate) (x : Float) (b : Bool) → b ≡ first_is_larger d → put_as d x b ≡ put_back d x
unfolding put_back
put_is d x b h = ap (put_as d x) h

-- the date with its smaller part changed by f, where b says whether jd1 is the larger
abbrev pub map_as : (Float → Float → Float) → JulianDate → Bool → JulianDate
map_as f d b = put_as d (f (parts_as d b).larger (parts_as d b).smaller) b

pub map_is : (f : Float → Float → Float) (d : JulianDate) → map_smaller_part f d ≡ map_as f d (first_is_larger d)
unfolding map_smaller_part parts_of put_back
map_is f d = refl
