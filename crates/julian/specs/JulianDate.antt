-- A Julian date as two floats, and its sums and differences in the Rust's order of operations. Written from document 01, "Julian date", and the Rust's
-- julian/mod.rs. Assumes nothing.
use Rattle.std.specs.Prelude.{Float}
use Rattle.std.specs.Float.{binary64}
use Rattle.std.specs.Float.Ieee.{add, sub, div}
use Rattle.floats.specs.Whole.{to_whole, cut}
use Rattle.constants.specs.Constants.{seconds_per_day}
use Rattle.julian.specs.declared.JulianDate.{JulianDate}

-- the date with these parts
abbrev pub julian : Float → Float → JulianDate
julian a b = record { jd1 = a; jd2 = b }

-- the sum of the parts, rounded once
unfoldable pub rounded_sum : JulianDate → Float
rounded_sum d = add binary64 d.jd1 d.jd2

-- jd2 with the part of a day added, whole days not yet carried; `cut` is the Rust's trunc
unfoldable pub uncarried : JulianDate → Float → Float
uncarried d days = add binary64 d.jd2 (sub binary64 days (to_whole cut days))

-- the whole days of the sum, and of `days`, go into jd1
unfoldable pub add_days : JulianDate → Float → JulianDate
add_days d days =
    julian (add binary64 d.jd1 (add binary64 (to_whole cut days) (to_whole cut (uncarried d days))))
    (sub binary64 (uncarried d days) (to_whole cut (uncarried d days)))

unfoldable pub add_seconds : JulianDate → Float → JulianDate
add_seconds d seconds = add_days d (div binary64 seconds seconds_per_day)

-- document 01: "The difference of two dates adds the differences of the parts"
unfoldable pub difference : JulianDate → JulianDate → Float
difference d e = add binary64 (sub binary64 d.jd1 e.jd1) (sub binary64 d.jd2 e.jd2)
