-- The Julian year of a Julian date, and the date of a Julian year: ERFA's eraEpj and eraEpj2jd, as in the Rust's julian/mod.rs. Assumes nothing.
use Rattle.std.specs.Prelude.{Float}
use Rattle.std.specs.Float.{binary64}
use Rattle.std.specs.Float.Ieee.{add, sub, mul, div}
use Rattle.constants.specs.Constants.{decimal, days_per_julian_year, j2000_jd, mjd_zero_point}
use Rattle.julian.specs.declared.JulianDate.{JulianDate}
use Rattle.julian.specs.JulianDate.{julian}

unfoldable pub to_julian_year : JulianDate → Float
to_julian_year d = add binary64 (decimal 2000 0) (div binary64 (add binary64 (sub binary64 d.jd1 j2000_jd) d.jd2) days_per_julian_year)

unfoldable pub from_julian_year : Float → JulianDate
from_julian_year year = julian mjd_zero_point
    (add binary64 (sub binary64 j2000_jd mjd_zero_point) (mul binary64 (sub binary64 year (decimal 2000 0)) days_per_julian_year))
