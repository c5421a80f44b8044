-- The answers as a check computes them: dates by division, every definition on the way open, numbers worked out. Assumes nothing.
use mathlib.Core.Path.{◌≡◌, sym, ◌∙◌}
use lib.Ieee.{round, of_bits, of_int, add, sub, mul, div, neg, lt, le, eq, to_signed}
use Rattle.refusals.specs.Outcome.{Outcome, onward}
use Rattle.constants.specs.Constants.{seconds_per_day, mjd_zero_point, unix_epoch_jd, nanoseconds_per_second, tcb_rate_lb, tdb_offset1977, tt_tai_offset}
use Rattle.constants.specs.Constants.{mjd1977_jan1}
use Rattle.floats.specs.Whole.{abs, to_whole, nearest_int}
use Rattle.numerals.specs.little_endian.LittleEndian.{four_at, u32_at}
use Rattle.calendar.specs.Calendar.{next, leap_size, lengths, days_in_month}
use Rattle.calendar.specs.Refusals.{valid_date, next_of}
use Rattle.calendar.specs.DayCount.{civil_count, mjd_number, mjd_of}
use Rattle.julian.specs.day_number.Answer.{day_number_and_fraction}
use Rattle.julian.specs.JulianDate.{rounded_sum}
use Rattle.julian.specs.DayFraction.{second_limit, time_in_day, day_fraction}
use Rattle.julian.specs.Finite.{finite_jd, finite_arg}
use Rattle.julian.specs.Calendar.{calendar_to_julian, from_calendar}
use Rattle.julian.specs.Calendar as Julian
use Rattle.leap_table.specs.rows.Table.{fixed, month_number, reached}
use Rattle.leap_table.specs.offsets.Offset.{seconds_of, start_of, rate_of, by_row, offset_by, offset_at, in_day, tai_utc_offset}
use Rattle.leap_table.specs.offsets.Leap.{day_offsets, leap_of, leap_at_end_of_day}
use Rattle.julian.specs.shifts.SmallerPart.{first_is_larger, parts_of, put_back, map_smaller_part}
use Rattle.scales.specs.Formulas.{since, tdb0, tt_days, jd1977, tcb_to_tdb}
use Rattle.scales.specs.Conversions as Scales
use Rattle.utc_scales.specs.to_ut1.UtcUt1.{utc_to_ut1}
use Rattle.time_of_day.specs.Milliseconds as Millis
use Rattle.time_of_day.specs.TimeShown.{time_of, day_end, from_zero, shown_at, count_by, shown_by}
use Rattle.utc.specs.text.Text.{year_text, utc_text}
use Rattle.utc.specs.text.Answer.{text_written, buffer_after}
use Rattle.utc.specs.FromCalendar.{midnight_plus, utc_from_calendar}
use Rattle.utc.specs.UnixTime.{unix_day, second_of_unix_day, second_with_nanos}
use Rattle.utc.specs.iso_texts.IsoText.{next_midnight_text_by, shown_text_by, day_text_by}
use Rattle.utc.specs.iso_texts.TextCall.{written, buffer_holds}
use Rattle.stamps.specs.Block.{block_of}
use Rattle.worked_cases.specs.Calls.{Call, Value, call_outcome}
use Rattle.julian.proofs.laws.Divisions.{divided_date}
use Rattle.worked_cases.proofs.ByDates.{answer_by, by-division}
use Rattle.worked_cases.proofs.Literals.{literal, literal_is}
use Rattle.julian.specs.shifts.Shifts.{days_of, changed, converted}

unfoldable pub computed : Call → Outcome Value
unfolding answer_by call_outcome divided_date onward
    calendar_to_julian from_calendar Julian.at_time rounded_sum mjd_of mjd_number civil_count valid_date next_of next days_in_month leap_size lengths
    day_number_and_fraction
    mjd_zero_point seconds_per_day unix_epoch_jd nanoseconds_per_second tcb_rate_lb tdb_offset1977 tt_tai_offset mjd1977_jan1
    day_fraction time_in_day second_limit midnight_plus utc_from_calendar unix_day second_of_unix_day second_with_nanos
    fixed month_number reached seconds_of start_of rate_of by_row offset_by offset_at in_day tai_utc_offset day_offsets leap_of leap_at_end_of_day
    finite_jd finite_arg Scales.answer_of converted changed map_smaller_part parts_of put_back first_is_larger tcb_to_tdb since days_of tdb0 tt_days jd1977
    utc_to_ut1
    shown_by count_by shown_at from_zero time_of day_end Millis.whole_leap Millis.millis_of Millis.fraction_seconds
    day_text_by shown_text_by next_midnight_text_by utc_text year_text text_written buffer_after written buffer_holds block_of u32_at four_at
    abs to_whole nearest_int round of_bits of_int add sub mul div neg lt le eq to_signed
computed c = literal (answer_by divided_date c)

pub as_computed : (c : Call) → call_outcome c ≡ computed c
unfolding computed
as_computed c = by-division c ∙ sym (literal_is (answer_by divided_date c))
