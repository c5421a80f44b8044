-- THE EXCHANGE SHEET'S HALF MILLISECOND, by computation: 2000-01-01 0h and 3/2048 day in document 01's text and in that of document 02, item 4. Assumes
-- nothing.
use mathlib.Core.Path.{◌≡◌, refl, ◌∙◌}
use mathlib.Core.List.{List}
use Prim.Native.Nat.{ℕ}
use lib.IntN.{ℤ}
use lib.Ieee.{round, of_bits, of_int, to_signed, add, sub, mul, div, neg, lt, le, eq}
use Rattle.refusals.specs.Outcome.{Outcome, answer, onward}
use Rattle.floats.specs.Whole.{abs, to_whole, nearest_int}
use Rattle.constants.specs.Constants.{seconds_per_day}
use Rattle.calendar.specs.declared.CalendarDate.{CalendarDate}
use Rattle.calendar.specs.Calendar.{next, leap_size, lengths, days_in_month}
use Rattle.calendar.specs.Refusals.{valid_date, next_of}
use Rattle.calendar.specs.DayCount.{civil_count, mjd_number, mjd_of}
use Rattle.julian.specs.day_number.Answer.{day_number_and_fraction}
use Rattle.julian.specs.Calendar.{julian_to_calendar}
use Rattle.julian.proofs.laws.Divisions.{divided_date, divided-date}
use Rattle.leap_table.specs.rows.Table.{fixed, month_number, reached}
use Rattle.leap_table.specs.offsets.Offset.{seconds_of, by_row, offset_by, offset_at, in_day, tai_utc_offset}
use Rattle.leap_table.specs.offsets.Leap.{day_offsets, leap_of, leap_at_end_of_day}
use Rattle.time_of_day.specs.Milliseconds as Millis
use Rattle.time_of_day.specs.HalfEven.{nearest_even, grid_units, worth, day_is_whole, in_whole, even_count}
use Rattle.time_of_day.specs.TimeShown.{time_of, day_end, from_zero, shown_at, count_by, shown_by}
use Rattle.utc.specs.text.Ascii.{ascii_bytes}
use Rattle.utc.specs.text.Text.{year_text, utc_text}
use Rattle.utc.specs.iso_texts.TextForm.{TextForm}
use Rattle.utc.specs.iso_texts.IsoText.{next_midnight_text_by, shown_text_by, day_text_by, iso_text_by, standard_form, iso_text}
use Rattle.utc.specs.iso_texts.HalfEven.{half_even_form, iso_text_half_even}
use Rattle.worked_cases.specs.HalfTexts.{HalfMillisecond, sheet}
use Rattle.worked_cases.proofs.ByDates.{to_calendar}

abbrev text_on : TextForm → (ℤ → CalendarDate) → Outcome (List ℕ)
text_on form dates = onward (to_calendar dates sheet.jd1 sheet.jd2) (λ c. day_text_by form fixed c.date c.fraction)

as_divided : (form : TextForm) → iso_text_by form fixed sheet ≡ text_on form divided_date
unfolding iso_text_by julian_to_calendar
as_divided form = λ i. text_on form (λ n. divided-date n i)

old_half : iso_text fixed sheet ≡ answer (ascii_bytes "2000-01-01T00:02:06.563")
unfolding day_number_and_fraction divided_date onward
    valid_date next_of next days_in_month leap_size lengths mjd_of mjd_number civil_count leap_at_end_of_day leap_of day_offsets tai_utc_offset in_day offset_at
    offset_by by_row
    seconds_of fixed month_number reached
    shown_by count_by shown_at from_zero time_of day_end Millis.whole_leap Millis.millis_of Millis.fraction_seconds day_text_by shown_text_by
    next_midnight_text_by utc_text
    year_text seconds_per_day
    abs to_whole nearest_int round of_bits of_int add sub mul div neg lt le eq to_signed
old_half = as_divided standard_form ∙ refl

new_half : iso_text_half_even fixed sheet ≡ answer (ascii_bytes "2000-01-01T00:02:06.562")
unfolding day_number_and_fraction divided_date onward
    valid_date next_of next days_in_month leap_size lengths mjd_of mjd_number civil_count leap_at_end_of_day leap_of day_offsets tai_utc_offset in_day offset_at
    offset_by by_row
    seconds_of fixed month_number reached even_count in_whole day_is_whole worth grid_units nearest_even
    shown_by count_by shown_at from_zero time_of day_end Millis.whole_leap Millis.millis_of Millis.fraction_seconds day_text_by shown_text_by
    next_midnight_text_by utc_text
    year_text seconds_per_day
    abs to_whole nearest_int round of_bits of_int add sub mul div neg lt le eq to_signed
new_half = as_divided half_even_form ∙ refl

pub half-millisecond : HalfMillisecond
half-millisecond = (old_half, new_half)
