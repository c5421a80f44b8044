-- `constants::constant` meets its contract: the code's list is the definition's, bit for bit.
use mathlib.Core.Path.{refl, sym}
use lib.ListN.{get_or-eq_default}
use lib.Ieee.{nan, of_bits, round, neg, add, sub, div}
use Rattle.constants.specs.Constants.{seconds_per_day, nanoseconds_per_second, days_per_julian_year, mjd_zero_point, j2000_jd, unix_epoch_jd}
use Rattle.constants.specs.Constants.{gps_to_tai_offset_seconds, tt_tai_offset, tcg_rate_lg, tcb_rate_lb, tdb_offset1977, mjd1977_jan1, tcg_reference_epoch}
use Rattle.constants.specs.Constants.{ratio, tcg_rate_ratio, tcb_rate_ratio, in_order}
use Rattle.constants.proofs.constant.Goals as goal

pub returns-then-i-lt15 : goal.returns-then-i-lt15
unfolding in_order seconds_per_day nanoseconds_per_second days_per_julian_year mjd_zero_point j2000_jd unix_epoch_jd gps_to_tai_offset_seconds tt_tai_offset
    tcg_rate_lg tcb_rate_lb
    tdb_offset1977 mjd1977_jan1 tcg_reference_epoch ratio tcg_rate_ratio tcb_rate_ratio of_bits round neg add sub div
returns-then-i-lt15 c = refl

pub returns-else-i-lt15 : goal.returns-else-i-lt15
unfolding in_order div of_bits
returns-else-i-lt15 c = sym (get_or-eq_default in_order nan c.if-i-lt15.false)
