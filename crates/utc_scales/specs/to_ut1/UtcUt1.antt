-- UTC to UT1 by DUT1 = UT1 - UTC in seconds: SOFA's iauUtcut1 (Time Scale and Calendar Tools), whose order of operations this is, each rounded once; the
-- Rust's scales/conversions/utc_ut1/mod.rs, which follows it, fixes the bits.
-- iauUtcut1: the calendar's date of (jd1, jd2), and TAI-UTC at its 0h; DUT1 less that is UT1 - TAI; UTC to TAI as in UtcTai.antt; and TAI to UT1 by this offset
-- (iauTaiut1), which adds the offset / 86400 to the part that is smaller in size. SOFA looks the date up before it goes to TAI, the Rust after it: the same
-- numbers, in another order of refusals. Document 01, "Refusals by number": 10, 6, date. Assumes nothing.
use Rattle.std.specs.Prelude.{List, Float}
use Rattle.std.specs.Float.{binary64}
use Rattle.std.specs.Float.Ieee.{sub}
use Rattle.refusals.specs.Outcome.{Outcome, onward}
use Rattle.julian.specs.declared.JulianDate.{JulianDate}
use Rattle.julian.specs.Finite.{finite_arg}
use Rattle.leap_table.specs.rows.Table.{Row}
use Rattle.scales.specs.Conversions.{answer_of, tai-ut1}
use Rattle.utc_scales.specs.days.Dates.{offset_of_date}
use Rattle.utc_scales.specs.UtcTai.{utc_to_tai}

unfoldable pub utc_to_ut1 : List Row → JulianDate → Float → Outcome JulianDate
utc_to_ut1 rows d dut1 =
    onward (finite_arg dut1) (λ _.
    onward (utc_to_tai rows d) (λ tai.
    onward (offset_of_date rows d.jd1 d.jd2) (λ x.
    answer_of (tai-ut1 (sub binary64 dut1 x)) tai)))
