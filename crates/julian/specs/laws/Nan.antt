-- Which dates have a NaN. Written from document 01, "Julian date": such a date equals none. Assumes nothing.
use Rattle.std.specs.Prelude.{◌≡◌, ◌⊎◌}
use Rattle.std.specs.Float.{nan}
use Rattle.julian.specs.declared.JulianDate.{JulianDate}

-- a part of the date, the first or the second, is a NaN
abbrev pub HasNan : JulianDate → Type 0
HasNan d = (d.jd1 ≡ nan) ⊎ (d.jd2 ≡ nan)
