-- THE LAST MINUTE OF A DAY THAT ENDS A SECOND EARLY, by computation: 2029-12-31 by the table of `ShortTable`. 23:59:59.0 and the Unix second of it are refused
-- with 4, the float below passes, and the text ends at 86,399,000 ms. From document 02, item 8. Assumes nothing.
use mathlib.Core.Path.{◌≡◌, refl, ◌∙◌}
use mathlib.Core.List.{List}
use Prim.Native.Nat.{ℕ}
use lib.IntN.{ℤ, pos}
use lib.Ieee.{Float, binary64, round, of_bits, of_int, to_signed, add, sub, mul, div, neg, lt, le, eq}
use Rattle.refusals.specs.Outcome.{Outcome, answer, refusal, onward}
use Rattle.refusals.proofs.Onward.{went}
use Rattle.floats.specs.Whole.{abs, to_whole, nearest_int, one}
use Rattle.constants.specs.Constants.{decimal, seconds_per_day, mjd_zero_point, unix_epoch_jd, nanoseconds_per_second}
use Rattle.calendar.specs.declared.CalendarDate.{CalendarDate}
use Rattle.calendar.specs.Calendar.{next, leap_size, lengths, days_in_month}
use Rattle.calendar.specs.Refusals.{valid_date, next_of}
use Rattle.calendar.specs.DayCount.{civil_count, mjd_number, mjd_of}
use Rattle.julian.specs.day_number.Answer.{day_number_and_fraction}
use Rattle.julian.specs.declared.JulianDate.{JulianDate}
use Rattle.julian.specs.JulianDate.{julian, rounded_sum}
use Rattle.julian.specs.DayFraction.{second_limit, time_in_day, day_fraction}
use Rattle.julian.specs.Calendar.{from_calendar, calendar_to_julian, julian_to_calendar}
use Rattle.julian.specs.Calendar as Julian
use Rattle.julian.proofs.laws.Divisions.{divided_date, divided-date}
use Rattle.leap_table.specs.rows.Table.{fixed, month_number, reached}
use Rattle.leap_table.specs.rows.Announced.{table_of}
use Rattle.leap_table.specs.offsets.Offset.{seconds_of, by_row, offset_by, offset_at, in_day, tai_utc_offset}
use Rattle.leap_table.specs.offsets.Leap.{day_offsets, leap_of, leap_at_end_of_day}
use Rattle.time_of_day.specs.Milliseconds as Millis
use Rattle.time_of_day.specs.TimeShown.{time_of, day_end, from_zero, shown_at, count_by, shown_by}
use Rattle.utc.specs.text.Text.{year_text, utc_text}
use Rattle.utc_scales.specs.laws.ShortTable.{short_table, short_rows}
use Rattle.utc_scales.proofs.laws.ShortDay.{short-taken, short-leap}
use Rattle.utc.specs.FromCalendar.{midnight_plus, utc_from_calendar}
use Rattle.utc.specs.UnixTime.{unix_day, second_of_unix_day, second_with_nanos, utc_new}
use Rattle.utc.specs.iso_texts.IsoText.{next_midnight_text_by, shown_text_by, day_text_by, day_text, iso_text_by, iso_text}
use Rattle.utc.proofs.laws.ShortDays.{short-day-refused, short-day-taken}
use Rattle.worked_cases.specs.Cases.{ascii}
use Rattle.worked_cases.proofs.ByDates.{to_calendar}

abbrev bits : ℕ → Float
bits n = of_bits binary64 n

valid : valid_date (pos 2029) (pos 12) (pos 31) ≡ answer tt
unfolding valid_date days_in_month lengths leap_size
valid = refl

-- ---- `utc_from_calendar` at 23:59
abbrev at_23_59 : Float → Outcome JulianDate
at_23_59 second = onward (table_of short_table) (λ rows. utc_from_calendar rows (pos 2029) 12 31 23 59 second)

pub second-59 : at_23_59 (decimal 59 0) ≡ refusal 4
unfolding le lt round
second-59 = went _ short-taken ∙ short-day-refused short_rows (pos 2029) 12 31 valid short-leap (decimal 59 0) refl

-- the float below 59.0: its day is over, rounded once
pub below-59 : at_23_59 (bits 0x404d_7fff_ffff_ffff) ≡ answer (julian (decimal 24625015 1) one)
unfolding le lt round of_bits of_int add mul div mjd_number civil_count mjd_zero_point seconds_per_day
below-59 = went _ short-taken ∙ short-day-taken short_rows (pos 2029) 12 31 valid short-leap (bits 0x404d_7fff_ffff_ffff) refl

-- 23:59:58.5 is 86,398.5 of 86,399 s
pub half-past-58 : at_23_59 (decimal 585 1) ≡ answer (julian (decimal 24625015 1) (bits 0x3fef_fff3_dd12_7aef))
unfolding le lt round of_bits of_int add mul div mjd_number civil_count mjd_zero_point seconds_per_day
half-past-58 = went _ short-taken ∙ short-day-taken short_rows (pos 2029) 12 31 valid short-leap (decimal 585 1) refl

-- ---- `UTC::new` of the day's 86,400th second, which it does not have
pub unix_second_refused : onward (table_of short_table) (λ rows. utc_new rows (pos 1893455999) 0) ≡ refusal 4
unfolding utc_new julian_to_calendar day_number_and_fraction divided_date onward unix_epoch_jd nanoseconds_per_second unix_day second_of_unix_day
    second_with_nanos
    calendar_to_julian from_calendar Julian.at_time utc_from_calendar midnight_plus day_fraction time_in_day second_limit valid_date next_of next days_in_month
    leap_size
    lengths mjd_of mjd_number civil_count leap_at_end_of_day leap_of day_offsets tai_utc_offset in_day offset_at offset_by by_row seconds_of
    fixed month_number reached abs to_whole nearest_int rounded_sum round of_bits of_int add sub mul div neg lt le eq to_signed
unix_second_refused = went _ short-taken ∙ (λ i. at_second (λ n. divided-date n i))
  where
    at_second : (ℤ → CalendarDate) → Outcome JulianDate
    at_second dates =
        onward (to_calendar dates unix_epoch_jd (of_int binary64 (pos 21914))) (λ c.
        utc_from_calendar short_rows c.date.year c.date.month c.date.day 23 59 (second_with_nanos 86399 0))

-- ---- `to_iso8601`
abbrev text : Float → Outcome (List ℕ)
text fraction = onward (table_of short_table) (λ rows. iso_text rows (julian (decimal 24625015 1) fraction))

abbrev text_on : (ℤ → CalendarDate) → Float → Outcome (List ℕ)
text_on dates fraction = onward (to_calendar dates (decimal 24625015 1) fraction) (λ c. day_text short_rows c.date c.fraction)

as_divided : (fraction : Float) → text fraction ≡ text_on divided_date fraction
unfolding iso_text_by julian_to_calendar
as_divided fraction = went _ short-taken ∙ (λ i. text_on (λ n. divided-date n i) fraction)

-- at 23:59:58.5, and at the last float below 1.0: the text goes on to the next midnight from 86,398.9995 s on
pub text-58-5 : text (bits 0x3fef_fff3_dd12_7aef) ≡ answer (ascii "2029-12-31T23:59:58.500")
unfolding day_number_and_fraction divided_date onward
    valid_date next_of next days_in_month leap_size lengths mjd_of mjd_number civil_count leap_at_end_of_day leap_of day_offsets tai_utc_offset in_day offset_at
    offset_by by_row
    seconds_of fixed month_number reached
    shown_by count_by shown_at from_zero time_of day_end Millis.whole_leap Millis.millis_of Millis.fraction_seconds day_text_by shown_text_by
    next_midnight_text_by utc_text
    year_text seconds_per_day
    abs to_whole nearest_int round of_bits of_int add sub mul div neg lt le eq to_signed
text-58-5 = as_divided (bits 0x3fef_fff3_dd12_7aef) ∙ refl

pub text-at-end : text (bits 0x3fef_ffff_ffff_ffff) ≡ answer (ascii "2030-01-01T00:00:00.000")
unfolding day_number_and_fraction divided_date onward
    valid_date next_of next days_in_month leap_size lengths mjd_of mjd_number civil_count leap_at_end_of_day leap_of day_offsets tai_utc_offset in_day offset_at
    offset_by by_row
    seconds_of fixed month_number reached
    shown_by count_by shown_at from_zero time_of day_end Millis.whole_leap Millis.millis_of Millis.fraction_seconds day_text_by shown_text_by
    next_midnight_text_by utc_text
    year_text seconds_per_day
    abs to_whole nearest_int round of_bits of_int add sub mul div neg lt le eq to_signed
text-at-end = as_divided (bits 0x3fef_ffff_ffff_ffff) ∙ refl
