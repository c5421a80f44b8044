-- The text of a UTC date. Written from document 01, "UTC text" and "Refusals by number" (order: 6, date; then 11, which is the buffer's), and the Rust's
-- `to_iso8601` (scales/utc/mod.rs). Assumes nothing.
use Rattle.std.specs.Prelude.{ℕ, List, pos, Float}
use Rattle.refusals.specs.Outcome.{Outcome, answer, onward}
use Rattle.floats.specs.Whole.{away}
use Rattle.calendar.specs.declared.CalendarDate.{CalendarDate}
use Rattle.calendar.specs.Refusals.{next_of}
use Rattle.julian.specs.declared.JulianDate.{JulianDate}
use Rattle.julian.specs.Calendar.{julian_to_calendar}
use Rattle.leap_table.specs.rows.Table.{Row}
use Rattle.leap_table.specs.offsets.Leap.{leap_at_end_of_day}
use Rattle.time_of_day.specs.declared.TimeOfDay.{TimeOfDay}
use Rattle.time_of_day.specs.declared.TimeShown.{TimeShown}
use Rattle.time_of_day.specs.declared.TimeShown.TheVariants.{At, NextMidnight}
use Rattle.time_of_day.specs.TimeShown.{count_by, shown_by}
use Rattle.utc.specs.text.Text.{utc_text}
use Rattle.utc.specs.iso_texts.TextForm.{TextForm}

-- 00:00:00.000
abbrev pub midnight : TimeOfDay
midnight = record { hour = 0; minute = 0; second = 0; milli = 0 }

-- the next date's midnight, by a way to write a date and a time
unfoldable pub next_midnight_text_by : (CalendarDate → TimeOfDay → List ℕ) → CalendarDate → Outcome (List ℕ)
next_midnight_text_by write d = onward (next_of d.year (pos d.month) (pos d.day)) (λ t. answer (write t midnight))

-- a time of the date itself, or the midnight that ends it
unfoldable pub shown_text_by : (CalendarDate → TimeOfDay → List ℕ) → CalendarDate → TimeShown → Outcome (List ℕ)
shown_text_by write d (At t) = answer (write d t)
shown_text_by write d NextMidnight = next_midnight_text_by write d

-- a fraction of the date's day
unfoldable pub day_text_by : TextForm → List Row → CalendarDate → Float → Outcome (List ℕ)
day_text_by textForm rows d fraction =
    onward (leap_at_end_of_day rows d.year (pos d.month) (pos d.day)) (λ leap. shown_text_by textForm.write d (shown_by textForm.count fraction leap))

unfoldable pub iso_text_by : TextForm → List Row → JulianDate → Outcome (List ℕ)
iso_text_by textForm rows jd = onward (julian_to_calendar jd.jd1 jd.jd2) (λ c. day_text_by textForm rows c.date c.fraction)

-- document 01's form: halves of a millisecond away from zero, years of at least four characters
abbrev pub standard_form : TextForm
standard_form = record { count = count_by away; write = utc_text }

abbrev pub next_midnight_text : CalendarDate → Outcome (List ℕ)
next_midnight_text d = next_midnight_text_by utc_text d

abbrev pub shown_text : CalendarDate → TimeShown → Outcome (List ℕ)
shown_text d r = shown_text_by utc_text d r

abbrev pub day_text : List Row → CalendarDate → Float → Outcome (List ℕ)
day_text rows d fraction = day_text_by standard_form rows d fraction

abbrev pub iso_text : List Row → JulianDate → Outcome (List ℕ)
iso_text rows jd = iso_text_by standard_form rows jd
