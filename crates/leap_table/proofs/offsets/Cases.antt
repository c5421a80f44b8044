-- Offsets as they come out: both ends of the day, and each refusal in its place. Document 01's worked cases are a table
-- of their own (crate `worked_cases`). Assumes nothing.
use Rattle.std.proofs.Common.{◌≡◌, true, false, pos, negsuc, refl}
use lib.Ieee.{fin, nan, round, le}
use Rattle.refusals.specs.Outcome.{answer, refusal, onward}
use Rattle.floats.specs.Whole.{one}
use Rattle.calendar.specs.Calendar.{leap_size, lengths, days_in_month}
use Rattle.calendar.specs.Refusals.{valid_date, next_of}
use Rattle.calendar.specs.DayCount.{civil_count, mjd_number, mjd_of}
use Rattle.leap_table.specs.rows.Table.{fixed, month_number, reached}
use Rattle.leap_table.specs.offsets.Offset.{seconds_of, by_row, offset_by, offset_at, in_day, tai_utc_offset}
use Rattle.leap_table.specs.offsets.Leap.{day_offsets, leap_at_end_of_day}

-- -0.0 and 1.0 are fractions of the day
pub at_minus_zero : tai_utc_offset fixed (pos 2017) (pos 1) (pos 1) (fin true 0 (pos 0)) ≡ answer (fin false 37 (pos 0))
unfolding tai_utc_offset onward mjd_of mjd_number civil_count valid_date days_in_month lengths leap_size offset_at offset_by by_row seconds_of round in_day le
    fixed
    month_number reached
at_minus_zero = refl

pub at_one : tai_utc_offset fixed (pos 2016) (pos 12) (pos 31) one ≡ answer (fin false 9 (pos 2))
unfolding tai_utc_offset onward mjd_of mjd_number civil_count valid_date days_in_month lengths leap_size offset_at offset_by by_row seconds_of round in_day le
    fixed
    month_number reached
at_one = refl

-- the floats next to them are none: 1 + 2^-52, and the largest below 0
pub above_one : tai_utc_offset fixed (pos 2017) (pos 1) (pos 1) (fin false 4503599627370497 (negsuc 51)) ≡ refusal 7
unfolding tai_utc_offset onward mjd_of mjd_number civil_count valid_date days_in_month lengths leap_size offset_at offset_by by_row seconds_of round in_day le
    fixed
    month_number reached
above_one = refl

pub below-zero : tai_utc_offset fixed (pos 2017) (pos 1) (pos 1) (fin true 1 (negsuc 1073)) ≡ refusal 7
unfolding tai_utc_offset onward mjd_of mjd_number civil_count valid_date days_in_month lengths leap_size offset_at offset_by by_row seconds_of round in_day le
    fixed
    month_number reached
below-zero = refl

-- 2.0 on 2017-13-01 is refused with 7: the fraction comes before the date. So is a NaN
pub fraction-first : tai_utc_offset fixed (pos 2017) (pos 13) (pos 1) (fin false 1 (pos 1)) ≡ refusal 7
unfolding tai_utc_offset onward mjd_of valid_date in_day le
fraction-first = refl

pub at_nan : tai_utc_offset fixed (pos 2017) (pos 13) (pos 1) nan ≡ refusal 7
unfolding tai_utc_offset onward mjd_of valid_date in_day le
at_nan = refl

pub no_month_13 : tai_utc_offset fixed (pos 2017) (pos 13) (pos 1) one ≡ refusal 2
unfolding tai_utc_offset onward mjd_of valid_date in_day le
no_month_13 = refl

-- no next day
pub no_leap : leap_at_end_of_day fixed (pos 2147483647) (pos 12) (pos 31) ≡ refusal 5
unfolding leap_at_end_of_day day_offsets next_of tai_utc_offset onward mjd_of mjd_number civil_count valid_date days_in_month lengths leap_size offset_at
    offset_by by_row
    seconds_of round in_day le fixed month_number reached
no_leap = refl
