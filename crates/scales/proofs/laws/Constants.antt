-- Each constant of the formulas near its exact decimal, and the rates as fractions. `tests/scale_numbers` makes the numbers: p or n is the float in units of 1
-- / L, the last but one number a power of 2 (or a number of days) above its size and the last the least bound of its distance from the decimal, both in units
-- of 2 ^ -90. Assumes nothing.
use Rattle.std.proofs.Common.{◌*◌, ◌^◌, true, false, refl, lit<, lit≤}
use lib.Ieee.{round, add, sub, div, neg}
use Rattle.rounding.specs.Value.{Val, L}
use Rattle.rounding.proofs.About.{U, About}
use Rattle.constants.specs.Constants.{seconds_per_day, mjd_zero_point, gps_to_tai_offset_seconds, tt_tai_offset, tcg_rate_lg, tcb_rate_lb, tdb_offset1977}
use Rattle.constants.specs.Constants.{mjd1977_jan1}
use Rattle.constants.specs.Constants.{tcg_reference_epoch, ratio, tcg_rate_ratio, tcb_rate_ratio}
use Rattle.scales.specs.Formulas.{gps_days, tt_days, jd1977, tdb0}
use Rattle.julian.specs.shifts.Shifts.{days_of}

pub gps-about : About gps_days (19 * L) 0 (L * 86400) 1208925819614629174706176 3032327
unfolding gps_days gps_to_tai_offset_seconds days_of seconds_per_day div round L U
gps-about = record {
  p = 8113151328714849 * 2 ^ 1009;
  n = 0;
  val = record { sign = false; size = 8113151328714849 * 2 ^ 1009; has = (refl, refl); is = refl };
  over = lit≤ tt;
  under = lit≤ tt;
  high = lit≤ tt;
  low = lit≤ tt;
  some = lit< tt;
}

pub tt_about : About tt_days (32184 * L) 0 (L * 86400000) 1208925819614629174706176 65562676
unfolding tt_days tt_tai_offset days_of seconds_per_day div round L U
tt_about = record {
  p = 6871412167456807 * 2 ^ 1010;
  n = 0;
  val = record { sign = false; size = 6871412167456807 * 2 ^ 1010; has = (refl, refl); is = refl };
  over = lit≤ tt;
  under = lit≤ tt;
  high = lit≤ tt;
  low = lit≤ tt;
  some = lit< tt;
}

pub mjd-about : About mjd_zero_point (24000005000000 * L) 0 (L * 10000000) 2971057332224951945138173036724224 0
unfolding mjd_zero_point round L U
mjd-about = record {
  p = 4800001 * 2 ^ 1073;
  n = 0;
  val = record { sign = false; size = 4800001 * 2 ^ 1073; has = (refl, refl); is = refl };
  over = lit≤ tt;
  under = lit≤ tt;
  high = lit≤ tt;
  low = lit≤ tt;
  some = lit< tt;
}

pub epoch_about : About tcg_reference_epoch (431440003725 * L) 0 (L * 10000000) 53410922994967731960522714644480 1516091778558004
unfolding tcg_reference_epoch mjd1977_jan1 tt_tai_offset seconds_per_day add div round L U
epoch_about = record {
  p = 2964833129895989 * 2 ^ 1038;
  n = 0;
  val = record { sign = false; size = 2964833129895989 * 2 ^ 1038; has = (refl, refl); is = refl };
  over = lit≤ tt;
  under = lit≤ tt;
  high = lit≤ tt;
  low = lit≤ tt;
  some = lit< tt;
}

pub jd1977-about : About jd1977 (2110876848000000000 * L) 0 (L * 864000000000) 3024467017279880391718420852244480 0
unfolding jd1977 mjd_zero_point mjd1977_jan1 add round L U
jd1977-about = record {
  p = 4886289 * 2 ^ 1073;
  n = 0;
  val = record { sign = false; size = 4886289 * 2 ^ 1073; has = (refl, refl); is = refl };
  over = lit≤ tt;
  under = lit≤ tt;
  high = lit≤ tt;
  low = lit≤ tt;
  some = lit< tt;
}

pub tt_about_2 : About tt_days (321840000 * L) 0 (L * 864000000000) 1208925819614629174706176 65562676
unfolding tt_days tt_tai_offset days_of seconds_per_day div round L U
tt_about_2 = record {
  p = 6871412167456807 * 2 ^ 1010;
  n = 0;
  val = record { sign = false; size = 6871412167456807 * 2 ^ 1010; has = (refl, refl); is = refl };
  over = lit≤ tt;
  under = lit≤ tt;
  high = lit≤ tt;
  low = lit≤ tt;
  some = lit< tt;
}

pub tdb0-about : About tdb0 0 (655 * L) (L * 864000000000) 1152921504606846976 70
unfolding tdb0 tdb_offset1977 days_of seconds_per_day neg div round L U
tdb0-about = record {
  p = 0;
  n = 3665955610405473 * 2 ^ 992;
  val = record { sign = true; size = 3665955610405473 * 2 ^ 992; has = (refl, refl); is = refl };
  over = lit≤ tt;
  under = lit≤ tt;
  high = lit≤ tt;
  low = lit≤ tt;
  some = lit< tt;
}

pub lg_val : Val tcg_rate_lg 6740283829902479 0 (2 ^ 83)
unfolding tcg_rate_lg round
lg_val = record { sign = false; size = 6740283829902479; has = (refl, refl); is = refl }

pub ratio-lg-val : Val tcg_rate_ratio 3370141917299989 0 (2 ^ 82)
unfolding tcg_rate_ratio ratio tcg_rate_lg sub div round
ratio-lg-val = record { sign = false; size = 3370141917299989; has = (refl, refl); is = refl }

pub lb_val : Val tcb_rate_lb 1171539613348803 0 (2 ^ 76)
unfolding tcb_rate_lb round
lb_val = record { sign = false; size = 1171539613348803; has = (refl, refl); is = refl }

pub ratio-lb-val : Val tcb_rate_ratio 2343079263027513 0 (2 ^ 77)
unfolding tcb_rate_ratio ratio tcb_rate_lb sub div round
ratio-lb-val = record { sign = false; size = 2343079263027513; has = (refl, refl); is = refl }
