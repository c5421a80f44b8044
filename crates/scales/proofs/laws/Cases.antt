-- Closed cases of the table of conversions, by computation: a tie, either part the larger, each refusal, and two pairs of stamps of one instant. Assumes
-- nothing.
use Rattle.std.proofs.Common.{◌≡◌, ℕ, ◌+◌, ◌*◌, ◌^◌, true, false, refl, inl, lit≤}
use lib.Ieee.{Float, inf, nan, binary64, of_bits, round, add, sub, mul, div, neg, fits, lt, le, eq}
use Rattle.floats.specs.Whole.{abs}
use Rattle.rounding.specs.Value.{L}
use Rattle.constants.specs.Constants.{seconds_per_day, mjd_zero_point, gps_to_tai_offset_seconds, tt_tai_offset, tcg_rate_lg, tcb_rate_lb, tdb_offset1977}
use Rattle.constants.specs.Constants.{mjd1977_jan1}
use Rattle.constants.specs.Constants.{tcg_reference_epoch, ratio, tcg_rate_ratio, tcb_rate_ratio}
use Rattle.refusals.specs.Outcome.{answer, refusal, onward}
use Rattle.julian.specs.declared.JulianDate.{JulianDate}
use Rattle.julian.specs.Finite.{finite_jd, finite_arg}
use Rattle.julian.specs.shifts.SmallerPart.{first_is_larger, parts_of, put_back, map_smaller_part}
use Rattle.scales.specs.Formulas.{since, gps_days, tt_days, tdb0, jd1977, tcg_to_tt, tt_to_tcg, tcb_to_tdb, tdb_to_tcb}
use Rattle.scales.specs.Conversions.{gps-tai, tt-tai, tt_tcg, tcg-tt, tcb-tdb, tdb-tcb, tcg-tai, tai-ut1, answer_of}
use Rattle.scales.specs.laws.Ranges.{Practical, Modified}
use Rattle.scales.specs.laws.Meaning.{Apart, Means, tai_over_gps}
use Rattle.scales.proofs.laws.Recorders.{one_instant, one-instant-modified}
use Rattle.julian.specs.shifts.Shifts.{plus, minus, days_of, changed, converted, finite_offset, finite_both, converted_by}

abbrev at : Float → Float → JulianDate
at a b = record { jd1 = a; jd2 = b }

abbrev bits : ℕ → Float
bits n = of_bits binary64 n

-- GPS to TAI at J2000.0
noon : answer_of gps-tai (at (bits 0x4142_b42c_8000_0000) (bits 0x0000_0000_0000_0000)) ≡ answer (at (bits 0x4142_b42c_8000_0000) (bits 0x3f2c_d2de_3ef5_0061))
unfolding answer_of converted converted_by finite_both finite_offset finite_jd finite_arg onward changed map_smaller_part parts_of put_back first_is_larger plus
    minus
    since days_of gps_days tt_days tdb0 jd1977 tcg_to_tt tt_to_tcg tcb_to_tdb tdb_to_tcb seconds_per_day gps_to_tai_offset_seconds tt_tai_offset mjd_zero_point
    mjd1977_jan1
    tcg_reference_epoch tcg_rate_lg tcb_rate_lb tcg_rate_ratio tcb_rate_ratio ratio tdb_offset1977 abs lt of_bits round add sub mul div neg
noon = refl

-- six hours after J2000.0 through the four that multiply by a rate
module _ where
  abbrev six-hours : JulianDate
  six-hours = at (bits 0x4142_b42c_8000_0000) (bits 0x3fd0_0000_0000_0000)

  tcg-to-tt : answer_of tcg-tt six-hours ≡ answer (at (bits 0x4142_b42c_8000_0000) (bits 0x3fcf_ffce_e312_42ae))
  unfolding answer_of converted converted_by finite_both finite_offset finite_jd finite_arg onward changed map_smaller_part parts_of put_back first_is_larger
      plus minus
      since days_of gps_days tt_days tdb0 jd1977 tcg_to_tt tt_to_tcg tcb_to_tdb tdb_to_tcb seconds_per_day gps_to_tai_offset_seconds tt_tai_offset
      mjd_zero_point mjd1977_jan1
      tcg_reference_epoch tcg_rate_lg tcb_rate_lb tcg_rate_ratio tcb_rate_ratio ratio tdb_offset1977 abs lt of_bits round add sub mul div neg
  tcg-to-tt = refl

  tt-to-tcg : answer_of tt_tcg six-hours ≡ answer (at (bits 0x4142_b42c_8000_0000) (bits 0x3fd0_0018_8e76_def2))
  unfolding answer_of converted converted_by finite_both finite_offset finite_jd finite_arg onward changed map_smaller_part parts_of put_back first_is_larger
      plus minus
      since days_of gps_days tt_days tdb0 jd1977 tcg_to_tt tt_to_tcg tcb_to_tdb tdb_to_tcb seconds_per_day gps_to_tai_offset_seconds tt_tai_offset
      mjd_zero_point mjd1977_jan1
      tcg_reference_epoch tcg_rate_lg tcb_rate_lb tcg_rate_ratio tcb_rate_ratio ratio tdb_offset1977 abs lt of_bits round add sub mul div neg
  tt-to-tcg = refl

  tcb-to-tdb : answer_of tcb-tdb six-hours ≡ answer (at (bits 0x4142_b42c_8000_0000) (bits 0x3fcf_fbbb_5547_c2e8))
  unfolding answer_of converted converted_by finite_both finite_offset finite_jd finite_arg onward changed map_smaller_part parts_of put_back first_is_larger
      plus minus
      since days_of gps_days tt_days tdb0 jd1977 tcg_to_tt tt_to_tcg tcb_to_tdb tdb_to_tcb seconds_per_day gps_to_tai_offset_seconds tt_tai_offset
      mjd_zero_point mjd1977_jan1
      tcg_reference_epoch tcg_rate_lg tcb_rate_lb tcg_rate_ratio tcb_rate_ratio ratio tdb_offset1977 abs lt of_bits round add sub mul div neg
  tcb-to-tdb = refl

  tdb-to-tcb : answer_of tdb-tcb six-hours ≡ answer (at (bits 0x4142_b42c_8000_0000) (bits 0x3fd0_0222_555c_acab))
  unfolding answer_of converted converted_by finite_both finite_offset finite_jd finite_arg onward changed map_smaller_part parts_of put_back first_is_larger
      plus minus
      since days_of gps_days tt_days tdb0 jd1977 tcg_to_tt tt_to_tcg tcb_to_tdb tdb_to_tcb seconds_per_day gps_to_tai_offset_seconds tt_tai_offset
      mjd_zero_point mjd1977_jan1
      tcg_reference_epoch tcg_rate_lg tcb_rate_lb tcg_rate_ratio tcb_rate_ratio ratio tdb_offset1977 abs lt of_bits round add sub mul div neg
  tdb-to-tcb = refl

-- on equal sizes jd1 changes
tie : answer_of gps-tai (at (bits 0x3ff0_0000_0000_0000) (bits 0xbff0_0000_0000_0000)) ≡ answer (at (bits 0x3ff0_00e6_96f1_f7a8) (bits 0xbff0_0000_0000_0000))
unfolding answer_of converted converted_by finite_both finite_offset finite_jd finite_arg onward changed map_smaller_part parts_of put_back first_is_larger plus
    minus
    since days_of gps_days tt_days tdb0 jd1977 tcg_to_tt tt_to_tcg tcb_to_tdb tdb_to_tcb seconds_per_day gps_to_tai_offset_seconds tt_tai_offset mjd_zero_point
    mjd1977_jan1
    tcg_reference_epoch tcg_rate_lg tcb_rate_lb tcg_rate_ratio tcb_rate_ratio ratio tdb_offset1977 abs lt of_bits round add sub mul div neg
tie = refl

-- jd2 is the larger part
second-larger : answer_of tt-tai (at (bits 0x3fd0_0000_0000_0000) (bits 0x4142_b42c_8000_0000)) ≡ answer
    (at (bits 0x3fcf_f3cb_3e57_53a4) (bits 0x4142_b42c_8000_0000))
unfolding answer_of converted converted_by finite_both finite_offset finite_jd finite_arg onward changed map_smaller_part parts_of put_back first_is_larger plus
    minus
    since days_of gps_days tt_days tdb0 jd1977 tcg_to_tt tt_to_tcg tcb_to_tdb tdb_to_tcb seconds_per_day gps_to_tai_offset_seconds tt_tai_offset mjd_zero_point
    mjd1977_jan1
    tcg_reference_epoch tcg_rate_lg tcb_rate_lb tcg_rate_ratio tcb_rate_ratio ratio tdb_offset1977 abs lt of_bits round add sub mul div neg
second-larger = refl

-- document 01's case of 9: a part is an infinity
infinite : answer_of gps-tai (at (inf false) (bits 0)) ≡ refusal 9
unfolding answer_of converted converted_by finite_both finite_offset finite_jd finite_arg onward changed map_smaller_part parts_of put_back first_is_larger plus
    minus
    since days_of gps_days tt_days tdb0 jd1977 tcg_to_tt tt_to_tcg tcb_to_tdb tdb_to_tcb seconds_per_day gps_to_tai_offset_seconds tt_tai_offset mjd_zero_point
    mjd1977_jan1
    tcg_reference_epoch tcg_rate_lg tcb_rate_lb tcg_rate_ratio tcb_rate_ratio ratio tdb_offset1977 abs lt of_bits round add sub mul div neg
infinite = refl

-- a part and the offset are not finite: 9 before 10
nine-first : answer_of (tai-ut1 nan) (at (inf false) (bits 0)) ≡ refusal 9
unfolding answer_of converted converted_by finite_both finite_offset finite_jd finite_arg onward changed map_smaller_part parts_of put_back first_is_larger plus
    minus
    since days_of gps_days tt_days tdb0 jd1977 tcg_to_tt tt_to_tcg tcb_to_tdb tdb_to_tcb seconds_per_day gps_to_tai_offset_seconds tt_tai_offset mjd_zero_point
    mjd1977_jan1
    tcg_reference_epoch tcg_rate_lg tcb_rate_lb tcg_rate_ratio tcb_rate_ratio ratio tdb_offset1977 abs lt of_bits round add sub mul div neg
nine-first = refl

-- the offset is not finite
ten : answer_of (tai-ut1 nan) (at (bits 0x3ff0_0000_0000_0000) (bits 0)) ≡ refusal 10
unfolding answer_of converted converted_by finite_both finite_offset finite_jd finite_arg onward changed map_smaller_part parts_of put_back first_is_larger plus
    minus
    since days_of gps_days tt_days tdb0 jd1977 tcg_to_tt tt_to_tcg tcb_to_tdb tdb_to_tcb seconds_per_day gps_to_tai_offset_seconds tt_tai_offset mjd_zero_point
    mjd1977_jan1
    tcg_reference_epoch tcg_rate_lg tcb_rate_lb tcg_rate_ratio tcb_rate_ratio ratio tdb_offset1977 abs lt of_bits round add sub mul div neg
ten = refl

-- finite TCG parts whose TT date in between is not finite: 9
between : answer_of tcg-tai (at (bits 0x7fee_42d1_3077_3b76) (bits 0x7fee_42d1_3077_3b76)) ≡ refusal 9
unfolding answer_of converted converted_by finite_both finite_offset finite_jd finite_arg onward changed map_smaller_part parts_of put_back first_is_larger plus
    minus
    since days_of gps_days tt_days tdb0 jd1977 tcg_to_tt tt_to_tcg tcb_to_tdb tdb_to_tcb seconds_per_day gps_to_tai_offset_seconds tt_tai_offset mjd_zero_point
    mjd1977_jan1
    tcg_reference_epoch tcg_rate_lg tcb_rate_lb tcg_rate_ratio tcb_rate_ratio ratio tdb_offset1977 abs lt of_bits round add sub mul div neg
between = refl

-- huge finite TCB parts give an infinity
overflow : answer_of tcb-tdb (at (bits 0x7fee_42d1_3077_3b76) (bits 0x7fee_42d1_3077_3b76)) ≡ answer (at (inf true) (bits 0x7fee_42d1_3077_3b76))
unfolding answer_of converted converted_by finite_both finite_offset finite_jd finite_arg onward changed map_smaller_part parts_of put_back first_is_larger plus
    minus
    since days_of gps_days tt_days tdb0 jd1977 tcg_to_tt tt_to_tcg tcb_to_tdb tdb_to_tcb seconds_per_day gps_to_tai_offset_seconds tt_tai_offset mjd_zero_point
    mjd1977_jan1
    tcg_reference_epoch tcg_rate_lg tcb_rate_lb tcg_rate_ratio tcb_rate_ratio ratio tdb_offset1977 abs lt of_bits round add sub mul div neg
overflow = refl

-- ---- one instant by two recorders: the premises of the theorems on recorders are met
-- J2000.0 by GPS, and 19 s later by TAI in the nearest float: 1 ps
gps_noon : JulianDate
gps_noon = at (bits 0x4142_b42c_8000_0000) (bits 0x0000_0000_0000_0000)

tai_noon : JulianDate
tai_noon = at (bits 0x4142_b42c_8000_0000) (bits 0x3f2c_d2de_3ef5_0061)

noon_stamps : Means 1 tai_over_gps gps_noon tai_noon
unfolding gps_noon tai_noon L of_bits
noon_stamps = record {
  p = 2451545 * 2 ^ 1074 + 0;
  n = 0;
  p' = 2451545 * 2 ^ 1074 + 8113151328714849 * 2 ^ 1009;
  n' = 0;
  from = record {
    p = 2451545 * 2 ^ 1074;
    n = 0;
    q = 0;
    m = 0;
    first = record { sign = false; size = 2451545 * 2 ^ 1074; has = (refl, refl); is = refl };
    second = record { sign = false; size = 0; has = (refl, refl); is = refl };
    total = refl;
  };
  to = record {
    p = 2451545 * 2 ^ 1074;
    n = 0;
    q = 8113151328714849 * 2 ^ 1009;
    m = 0;
    first =
        record { sign = false; size = 2451545 * 2 ^ 1074; has = (refl, refl); is = refl };
    second =
        record { sign = false; size = 8113151328714849 * 2 ^ 1009; has = (refl, refl); is = refl };
    total = refl;
  };
  over = lit≤ tt;
  under = lit≤ tt;
}

noon_range : Practical gps_noon
unfolding gps_noon of_bits round fits le lt eq abs
noon_range = inl ((tt, tt), (tt, tt))

noon_instant : (u : JulianDate) × (answer_of gps-tai gps_noon ≡ answer u) × Apart 11 tai_noon u
noon_instant = one_instant 1 gps_noon tai_noon noon_range noon_stamps

-- the midnight before, split at 2400000.5, and 19 s later by TAI in the nearest float: 40979 ps
gps_midnight : JulianDate
gps_midnight = at (bits 0x4142_4f80_4000_0000) (bits 0x40e9_2b00_0000_0000)

tai_midnight : JulianDate
tai_midnight = at (bits 0x4142_4f80_4000_0000) (bits 0x40e9_2b00_01cd_2de4)

midnight-stamps : Means 40979 tai_over_gps gps_midnight tai_midnight
unfolding gps_midnight tai_midnight L of_bits
midnight-stamps = record {
  p = 4800001 * 2 ^ 1073 + 51544 * 2 ^ 1074;
  n = 0;
  p' = 4800001 * 2 ^ 1073 + 1771038361996153 * 2 ^ 1039;
  n' = 0;
  from = record {
    p = 4800001 * 2 ^ 1073;
    n = 0;
    q = 51544 * 2 ^ 1074;
    m = 0;
    first =
        record { sign = false; size = 4800001 * 2 ^ 1073; has = (refl, refl); is = refl };
    second =
        record { sign = false; size = 51544 * 2 ^ 1074; has = (refl, refl); is = refl };
    total = refl;
  };
  to = record {
    p = 4800001 * 2 ^ 1073;
    n = 0;
    q = 1771038361996153 * 2 ^ 1039;
    m = 0;
    first =
        record { sign = false; size = 4800001 * 2 ^ 1073; has = (refl, refl); is = refl };
    second =
        record { sign = false; size = 1771038361996153 * 2 ^ 1039; has = (refl, refl); is = refl };
    total = refl;
  };
  over = lit≤ tt;
  under = lit≤ tt;
}

midnight-range : Modified gps_midnight
unfolding gps_midnight of_bits round fits le lt eq abs
midnight-range = inl ((tt, tt), (tt, tt))

midnight-instant : (u : JulianDate) × (answer_of gps-tai gps_midnight ≡ answer u) × Apart 669622 tai_midnight u
midnight-instant = one-instant-modified 40979 gps_midnight tai_midnight midnight-range midnight-stamps
