-- The calendar's day of a UTC date with what a text is written by: the fraction of the day, its leap and its rule. This project's own; no contract of a public
-- function cites it. Assumes nothing.
use Rattle.std.specs.Prelude.{List, pos, Float}
use Rattle.refusals.specs.Outcome.{Outcome, answer, onward}
use Rattle.calendar.specs.declared.CalendarDate.{CalendarDate}
use Rattle.julian.specs.declared.JulianDate.{JulianDate}
use Rattle.julian.specs.Calendar.{julian_to_calendar}
use Rattle.leap_table.specs.rows.Table.{Row}
use Rattle.leap_table.specs.offsets.Leap.{leap_at_end_of_day}
use Rattle.utc.specs.declared.iso_texts.TextDay.{TextDay}
use Rattle.utc.specs.iso_texts.ByRule.{rule_on}

unfoldable pub day_with_leap : List Row → CalendarDate → Float → Outcome TextDay
day_with_leap rows d f = onward (leap_at_end_of_day rows d.year (pos d.month) (pos d.day))
    (λ l. answer (record { date = d; fraction = f; leap = l; rule = rule_on rows d }))

unfoldable pub text_day : List Row → JulianDate → Outcome TextDay
text_day rows jd = onward (julian_to_calendar jd.jd1 jd.jd2) (λ c. day_with_leap rows c.date c.fraction)
