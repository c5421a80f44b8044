-- The bits of the constants that src/tcb_tdb.rt computes: a constant of the code reaches a proof as its bit pattern, and these laws put the definition in its
-- place. Assumes nothing.
use Rattle.std.proofs.Common.{◌≡◌, refl}
use lib.Ieee.{binary64, of_bits, round, neg, add, div}
use Rattle.constants.specs.Constants.{seconds_per_day, mjd_zero_point, mjd1977_jan1, tt_tai_offset, tdb_offset1977}
use Rattle.constants.proofs.Bits.{seconds-per-day, gps-to-tai-offset-seconds, tt-tai-offset, mjd-zero-point, tcg-reference-epoch, tcg-rate-lg}
use Rattle.constants.proofs.Bits.{tcg-rate-ratio, tcb-rate-lb, tcb-rate-ratio}
use Rattle.scales.specs.Formulas.{tt_days, tdb0, jd1977}
use Rattle.julian.specs.shifts.Shifts.{days_of}

pub t77td : of_bits binary64 0x4142_a3c4_4000_0000 ≡ jd1977
unfolding jd1977 mjd_zero_point mjd1977_jan1 add round of_bits
t77td = refl

pub t77tf : of_bits binary64 0x3f38_6983_5158_b827 ≡ tt_days
unfolding tt_days days_of tt_tai_offset seconds_per_day div round of_bits
t77tf = refl

pub tdb0-bits : of_bits binary64 0xbe0a_0c55_9bd7_54c2 ≡ tdb0
unfolding tdb0 days_of tdb_offset1977 seconds_per_day neg div round of_bits
tdb0-bits = refl

-- the constants of the code
pub ruleset numbers = (
  seconds-per-day,
  gps-to-tai-offset-seconds,
  tt-tai-offset,
  mjd-zero-point,
  tcg-reference-epoch,
  tcg-rate-lg,
  tcg-rate-ratio,
  tcb-rate-lb,
  tcb-rate-ratio,
  t77td,
  t77tf,
  tdb0-bits,
)
