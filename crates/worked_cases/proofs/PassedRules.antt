-- THE RULE THAT A TEXT PASSES ON is that of the calendar's date before any carry, by computation: 2016-12-31 23:59:60.9996 shows 2017 and tells row 40, the
-- last float of 1971 shows 1972 and tells the row 13 that drifts, 1959 tells none, and under an announced row that row is told. Assumes nothing.
use mathlib.Core.Path.{◌≡◌, refl, ◌∙◌}
use mathlib.Core.List.{List}
use Prim.Native.Nat.{ℕ, ◌-◌}
use lib.IntN.{ℤ, pos}
use lib.Ieee.{Float, binary64, of_bits, round, of_int, add, sub, mul, div, neg, lt, le, eq, to_signed}
use Rattle.refusals.specs.Outcome.{Outcome, answer, onward}
use Rattle.refusals.proofs.Onward.{went}
use Rattle.floats.specs.Whole.{abs, to_whole, nearest_int}
use Rattle.constants.specs.Constants.{decimal, seconds_per_day, mjd_zero_point}
use Rattle.calendar.specs.declared.CalendarDate.{CalendarDate}
use Rattle.calendar.specs.Calendar.{next, leap_size, lengths, days_in_month}
use Rattle.calendar.specs.Refusals.{valid_date, next_of}
use Rattle.calendar.specs.DayCount.{civil_count, mjd_number, mjd_of}
use Rattle.julian.specs.day_number.Answer.{day_number_and_fraction}
use Rattle.julian.specs.declared.JulianDate.{JulianDate}
use Rattle.julian.specs.JulianDate.{julian, rounded_sum}
use Rattle.julian.specs.DayFraction.{second_limit, time_in_day, day_fraction}
use Rattle.julian.specs.Calendar.{calendar_to_julian, from_calendar, julian_to_calendar}
use Rattle.julian.specs.Calendar as Julian
use Rattle.julian.proofs.laws.Divisions.{divided_date, divided-date}
use Rattle.leap_table.specs.declared.offsets.Rule.{Rule}
use Rattle.leap_table.specs.declared.offsets.Rule.TheVariants.{Absent, Drifting, Whole}
use Rattle.leap_table.specs.rows.Table.{Row, fixed, month_number, reached}
use Rattle.leap_table.specs.rows.Announced.{table_of}
use Rattle.leap_table.specs.offsets.Offset.{seconds_of, start_of, rate_of, by_row, offset_by, offset_at, in_day, tai_utc_offset}
use Rattle.leap_table.specs.offsets.Leap.{day_offsets, leap_of, leap_at_end_of_day}
use Rattle.leap_table.specs.offsets.Rule.{rule_by, rule_of, rule_at, rule_on, with_rule}
use Rattle.time_of_day.specs.Milliseconds as Millis
use Rattle.time_of_day.specs.TimeShown.{time_of, day_end, from_zero, shown_at, count_by, shown_by}
use Rattle.utc.specs.text.Text.{year_text, utc_text}
use Rattle.utc.specs.FromCalendar.{midnight_plus, utc_from_calendar}
use Rattle.utc.specs.iso_texts.IsoText.{next_midnight_text_by, shown_text_by, day_text_by, day_text}
use Rattle.utc.specs.iso_texts.ByRule.{text_by_rule, iso_text_by_rule}
use Rattle.utc_scales.specs.laws.ShortTable.{short_table, short_rows, short_place}
use Rattle.utc_scales.proofs.laws.ShortDay.{short-taken}
use Rattle.worked_cases.specs.Cases.{ascii}
use Rattle.worked_cases.proofs.ByDates.{to_calendar}

abbrev bits : ℕ → Float
bits n = of_bits binary64 n

-- ---- the text and the rule, dates by the Rust's divisions
abbrev text_on : (ℤ → CalendarDate) → List Row → JulianDate → Outcome (List ℕ × Rule)
text_on dates rows d = onward (to_calendar dates d.jd1 d.jd2) (λ c. with_rule (day_text rows c.date c.fraction) (rule_on rows c.date))

unfoldable computed_text : List Row → JulianDate → Outcome (List ℕ × Rule)
unfolding day_number_and_fraction divided_date onward with_rule rule_on rule_at rule_of rule_by
    valid_date next_of next days_in_month leap_size lengths mjd_of mjd_number civil_count leap_at_end_of_day leap_of day_offsets tai_utc_offset in_day offset_at
    offset_by by_row
    seconds_of start_of rate_of fixed month_number reached
    shown_by count_by shown_at from_zero time_of day_end Millis.whole_leap Millis.millis_of Millis.fraction_seconds day_text_by shown_text_by
    next_midnight_text_by utc_text
    year_text seconds_per_day
    abs to_whole nearest_int round of_bits of_int add sub mul div neg lt le eq to_signed
computed_text rows d = text_on divided_date rows d

as_computed : (rows : List Row) (d : JulianDate) → iso_text_by_rule rows d ≡ computed_text rows d
unfolding computed_text text_by_rule julian_to_calendar
as_computed rows d = (λ i. text_on (λ n. divided-date n i) rows d)

-- ---- 2016-12-31 23:59:60.9996, as `utc_from_calendar` has it
abbrev second-60-9996 : JulianDate
second-60-9996 = julian (decimal 24577535 1) (bits 0x3fef_ffff_fd83_b746)

from_fields : utc_from_calendar fixed (pos 2016) 12 31 23 59 (decimal 609996 4) ≡ answer second-60-9996
unfolding utc_from_calendar midnight_plus day_fraction time_in_day second_limit calendar_to_julian from_calendar Julian.at_time rounded_sum mjd_zero_point
    onward
    valid_date next_of next days_in_month leap_size lengths mjd_of mjd_number civil_count leap_at_end_of_day leap_of day_offsets tai_utc_offset in_day offset_at
    offset_by by_row
    seconds_of start_of rate_of fixed month_number reached seconds_per_day
    round of_bits of_int add sub mul div neg lt le eq
from_fields = refl

pub carried_from_2016 : onward (utc_from_calendar fixed (pos 2016) 12 31 23 59 (decimal 609996 4)) (λ d. iso_text_by_rule fixed d) ≡ answer
    (ascii "2017-01-01T00:00:00.000", Whole 40)
unfolding computed_text round of_bits
carried_from_2016 = went _ from_fields ∙ as_computed fixed second-60-9996 ∙ refl

-- ---- the last float of 1971-12-31
pub carried_from_1971 : iso_text_by_rule fixed (julian (decimal 24413165 1) (bits 0x3fef_ffff_ffff_ffff))
    ≡ answer (ascii "1972-01-01T00:00:00.000", Drifting 13)
unfolding computed_text round of_bits
carried_from_1971 = as_computed fixed (julian (decimal 24413165 1) (bits 0x3fef_ffff_ffff_ffff)) ∙ refl

-- ---- noon of 1959-06-15
pub before-rows : iso_text_by_rule fixed (julian (decimal 24367345 1) (decimal 5 1)) ≡ answer (ascii "1959-06-15T12:00:00.000", Absent)
unfolding computed_text round of_bits
before-rows = as_computed fixed (julian (decimal 24367345 1) (decimal 5 1)) ∙ refl

-- ---- by the two announced rows of `short_table`: the last float of 2029-12-31 shows 2030 and tells the row before that of 2030-01-01
abbrev announced_text : JulianDate → Outcome (List ℕ × Rule)
announced_text d = onward (table_of short_table) (λ rows. iso_text_by_rule rows d)

pub carried_to_announced_row : announced_text (julian (decimal 24625015 1) (bits 0x3fef_ffff_ffff_ffff)) ≡ answer
    (ascii "2030-01-01T00:00:00.000", Whole (short_place - 1))
unfolding computed_text round of_bits
carried_to_announced_row = went _ short-taken ∙ as_computed short_rows (julian (decimal 24625015 1) (bits 0x3fef_ffff_ffff_ffff)) ∙ refl

pub in_announced_row : announced_text (julian (decimal 24625025 1) (decimal 5 1)) ≡ answer (ascii "2030-01-01T12:00:00.000", Whole short_place)
unfolding computed_text round of_bits
in_announced_row = went _ short-taken ∙ as_computed short_rows (julian (decimal 24625025 1) (decimal 5 1)) ∙ refl
