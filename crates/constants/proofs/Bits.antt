-- The bits of each constant: a constant of the code reaches a proof as its bit pattern, and these laws put the definition in its place.
use mathlib.Core.Path.{◌≡◌, refl}
use lib.Ieee.{binary64, of_bits, round, add, sub, div}
use Rattle.constants.specs.Constants.{seconds_per_day, nanoseconds_per_second, mjd_zero_point, unix_epoch_jd}
use Rattle.constants.specs.Constants.{gps_to_tai_offset_seconds, tt_tai_offset, tcg_rate_lg, tcb_rate_lb, mjd1977_jan1, tcg_reference_epoch}
use Rattle.constants.specs.Constants.{tcg_rate_ratio, tcb_rate_ratio, ratio}

pub seconds-per-day : of_bits binary64 0x40f5_1800_0000_0000 ≡ seconds_per_day
unfolding seconds_per_day round of_bits
seconds-per-day = refl

pub nanoseconds-per-second : of_bits binary64 0x41cd_cd65_0000_0000 ≡ nanoseconds_per_second
unfolding nanoseconds_per_second round of_bits
nanoseconds-per-second = refl

pub mjd-zero-point : of_bits binary64 0x4142_4f80_4000_0000 ≡ mjd_zero_point
unfolding mjd_zero_point round of_bits
mjd-zero-point = refl

pub unix-epoch-jd : of_bits binary64 0x4142_9ec5_c000_0000 ≡ unix_epoch_jd
unfolding unix_epoch_jd round of_bits
unix-epoch-jd = refl

pub gps-to-tai-offset-seconds : of_bits binary64 0x4033_0000_0000_0000 ≡ gps_to_tai_offset_seconds
unfolding gps_to_tai_offset_seconds round of_bits
gps-to-tai-offset-seconds = refl

pub tt-tai-offset : of_bits binary64 0x4040_178d_4fdf_3b64 ≡ tt_tai_offset
unfolding tt_tai_offset round of_bits
tt-tai-offset = refl

pub tcg-rate-lg : of_bits binary64 0x3e07_f240_9f5d_dc8f ≡ tcg_rate_lg
unfolding tcg_rate_lg round of_bits
tcg-rate-lg = refl

pub tcb-rate-lb : of_bits binary64 0x3e50_a609_49f9_cf0c ≡ tcb_rate_lb
unfolding tcb_rate_lb round of_bits
tcb-rate-lb = refl

pub tcg-reference-epoch : of_bits binary64 0x40e5_1100_030d_306a ≡ tcg_reference_epoch
unfolding tcg_reference_epoch mjd1977_jan1 tt_tai_offset seconds_per_day add div round of_bits
tcg-reference-epoch = refl

pub tcg-rate-ratio : of_bits binary64 0x3e07_f240_9fa5_8a2a ≡ tcg_rate_ratio
unfolding tcg_rate_ratio ratio tcg_rate_lg sub div round of_bits
tcg-rate-ratio = refl

pub tcb-rate-ratio : of_bits binary64 0x3e50_a609_4e4e_8272 ≡ tcb_rate_ratio
unfolding tcb_rate_ratio ratio tcb_rate_lb sub div round of_bits
tcb-rate-ratio = refl

-- all, as a function names them at its mark
pub ruleset numbers = (
  seconds-per-day,
  nanoseconds-per-second,
  mjd-zero-point,
  unix-epoch-jd,
  gps-to-tai-offset-seconds,
  tt-tai-offset,
  tcg-rate-lg,
  tcb-rate-lb,
  tcg-reference-epoch,
  tcg-rate-ratio,
  tcb-rate-ratio,
)
