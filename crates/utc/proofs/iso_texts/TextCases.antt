-- WORKED TEXTS, by computation: the leap second of 2016-12-31 in both ways of rounding, a fraction that shows the next midnight, and the date of a time in that
-- second. Written from document 01, "UTC text" and "Refusals by number". Assumes nothing.
use mathlib.Core.Path.{◌≡◌, refl}
use lib.IntN.{pos, negsuc}
use lib.Ieee.{Float, binary64, round, of_bits, of_int, add, sub, mul, div, lt, le, eq, to_signed}
use Rattle.refusals.specs.Outcome.{answer, onward}
use Rattle.floats.specs.Whole.{abs, to_whole}
use Rattle.constants.specs.Constants.{seconds_per_day, mjd_zero_point}
use Rattle.calendar.specs.declared.CalendarDate.{CalendarDate}
use Rattle.calendar.specs.Calendar.{date, next, leap_size, lengths, days_in_month}
use Rattle.calendar.specs.Refusals.{valid_date, next_of}
use Rattle.calendar.specs.DayCount.{civil_count, mjd_number, mjd_of}
use Rattle.julian.specs.JulianDate.{julian, rounded_sum}
use Rattle.julian.specs.DayFraction.{second_limit, time_in_day, day_fraction}
use Rattle.julian.specs.Calendar.{calendar_to_julian, from_calendar}
use Rattle.julian.specs.Calendar as Julian
use Rattle.leap_table.specs.rows.Table.{fixed, month_number, reached}
use Rattle.leap_table.specs.offsets.Offset.{seconds_of, start_of, rate_of, by_row, offset_by, offset_at, in_day, tai_utc_offset}
use Rattle.leap_table.specs.offsets.Leap.{day_offsets, leap_of, leap_at_end_of_day}
use Rattle.time_of_day.specs.Milliseconds.{whole_leap, fraction_seconds, millis_of}
use Rattle.time_of_day.specs.TimeShown.{time_of, day_end, from_zero, shown_at, count_by, shown_by}
use Rattle.time_of_day.specs.HalfEven.{nearest_even, grid_units, worth, day_is_whole, twice, half_millis, of_halves, float_count, in_whole, even_count}
use Rattle.utc.specs.text.Ascii.{ascii_bytes}
use Rattle.utc.specs.text.Text.{year_text, utc_text}
use Rattle.utc.specs.FromCalendar.{midnight_plus, utc_from_calendar}
use Rattle.utc.specs.UnixTime.{unix_day}
use Rattle.utc.specs.iso_texts.IsoText.{next_midnight_text_by, shown_text_by, day_text_by, day_text}
use Rattle.utc.specs.iso_texts.HalfEven.{half_even_form}

abbrev last-of-2016 : CalendarDate
last-of-2016 = date (pos 2016) 12 31

-- the fraction 86400/86401, rounded once, of a day of 86,401 s
abbrev second-60 : Float
second-60 = of_bits binary64 0x3fef_ffe7_ba49_c869

pub text-of-leap-second : day_text fixed last-of-2016 second-60 ≡ answer (ascii_bytes "2016-12-31T23:59:60.000")
unfolding day_text_by shown_text_by utc_text year_text leap_at_end_of_day day_offsets leap_of tai_utc_offset next_of next onward mjd_of mjd_number civil_count
    valid_date
    days_in_month lengths leap_size offset_at offset_by by_row seconds_of start_of rate_of in_day fixed month_number reached shown_by count_by shown_at
    from_zero time_of
    day_end whole_leap millis_of fraction_seconds to_whole abs round of_bits of_int add sub mul div lt le eq to_signed
text-of-leap-second = refl

pub even-text-of-leap-second : day_text_by half_even_form fixed last-of-2016 second-60 ≡ answer (ascii_bytes "2016-12-31T23:59:60.000")
unfolding day_text_by shown_text_by utc_text year_text leap_at_end_of_day day_offsets leap_of tai_utc_offset next_of next onward mjd_of mjd_number civil_count
    valid_date
    days_in_month lengths leap_size offset_at offset_by by_row seconds_of start_of rate_of in_day fixed month_number reached shown_by even_count in_whole worth
    grid_units
    nearest_even float_count half_millis twice of_halves day_is_whole shown_at from_zero time_of day_end whole_leap fraction_seconds to_whole abs round of_bits
    of_int add
    sub mul div lt le eq to_signed
even-text-of-leap-second = refl

-- 1 - 2^-53 of 2016-12-30
pub text-of-next-midnight : day_text fixed (date (pos 2016) 12 30) (of_bits binary64 0x3fef_ffff_ffff_ffff) ≡ answer (ascii_bytes "2016-12-31T00:00:00.000")
unfolding day_text_by shown_text_by next_midnight_text_by utc_text year_text leap_at_end_of_day day_offsets leap_of tai_utc_offset next_of next onward mjd_of
    mjd_number
    civil_count valid_date days_in_month lengths leap_size offset_at offset_by by_row seconds_of start_of rate_of in_day fixed month_number reached shown_by
    count_by shown_at
    from_zero time_of day_end whole_leap millis_of fraction_seconds to_whole abs round of_bits of_int add sub mul div lt le eq to_signed
text-of-next-midnight = refl

-- 23:59:60.5 of 2016-12-31 is 86,400.5 s of 86,401
pub date-in-leap-second : utc_from_calendar fixed (pos 2016) 12 31 23 59 (of_bits binary64 0x404e_4000_0000_0000) ≡ answer
    (julian (of_bits binary64 0x4142_c04c_c000_0000) (of_bits binary64 0x3fef_fff3_dd24_e434))
unfolding utc_from_calendar midnight_plus day_fraction time_in_day second_limit from_calendar calendar_to_julian Julian.at_time rounded_sum leap_at_end_of_day
    day_offsets leap_of
    tai_utc_offset next_of next onward mjd_of mjd_number civil_count valid_date days_in_month lengths leap_size offset_at offset_by by_row seconds_of start_of
    rate_of in_day
    fixed month_number reached seconds_per_day mjd_zero_point abs round of_bits of_int add sub mul div lt le eq
date-in-leap-second = refl

-- the second before 1970-01-01 lies in the day before
pub day-of-minus-one : unix_day (negsuc 0) ≡ negsuc 0
unfolding unix_day
day-of-minus-one = refl
