-- What the smaller part becomes: SOFA's formulas (Time Scale and Calendar Tools) in the Rust's order of operations (the files of scales/conversions), each
-- operation rounded once and nothing fused. Assumes nothing.
use Rattle.std.specs.Prelude.{Float}
use Rattle.std.specs.Float.{binary64}
use Rattle.std.specs.Float.Ieee.{add, sub, mul}
use Rattle.constants.specs.Constants.{mjd_zero_point, gps_to_tai_offset_seconds, tt_tai_offset, tcg_rate_lg, tcb_rate_lb, tdb_offset1977, mjd1977_jan1}
use Rattle.constants.specs.Constants.{tcg_reference_epoch, tcg_rate_ratio, tcb_rate_ratio}
use Rattle.julian.specs.shifts.Shifts.{days_of}

-- TAI - GPS, TT - TAI and TDB_0, in days
unfoldable pub gps_days : Float
gps_days = days_of gps_to_tai_offset_seconds

unfoldable pub tt_days : Float
tt_days = days_of tt_tai_offset

unfoldable pub tdb0 : Float
tdb0 = days_of tdb_offset1977

-- 1977 January 1, midnight, as a Julian date
unfoldable pub jd1977 : Float
jd1977 = add binary64 mjd_zero_point mjd1977_jan1

-- (larger - a) + (smaller - b): the days since a + b
unfoldable pub since : Float → Float → Float → Float → Float
since a b larger smaller = add binary64 (sub binary64 larger a) (sub binary64 smaller b)

unfoldable pub tcg_to_tt : Float → Float → Float
tcg_to_tt larger smaller = sub binary64 smaller (mul binary64 (since mjd_zero_point tcg_reference_epoch larger smaller) tcg_rate_lg)

unfoldable pub tt_to_tcg : Float → Float → Float
tt_to_tcg larger smaller = add binary64 smaller (mul binary64 (since mjd_zero_point tcg_reference_epoch larger smaller) tcg_rate_ratio)

unfoldable pub tcb_to_tdb : Float → Float → Float
tcb_to_tdb larger smaller = sub binary64 (add binary64 smaller tdb0) (mul binary64 (since jd1977 tt_days larger smaller) tcb_rate_lb)

unfoldable pub tdb_to_tcb : Float → Float → Float
tdb_to_tcb larger smaller =
    let f = sub binary64 smaller tdb0 in
    sub binary64 f (mul binary64 (sub binary64 (sub binary64 jd1977 larger) (sub binary64 f tt_days)) tcb_rate_ratio)
