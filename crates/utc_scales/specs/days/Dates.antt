-- TAI-UTC and the midnight of a calendar date, and TAI-UTC of a Julian date's day. Written from the Rust's scales/conversions/utc_tai/mod.rs and
-- utc_ut1/mod.rs, which hand the year, month and day on as three signed numbers. Assumes nothing.
use Rattle.std.specs.Prelude.{List, pos, Float}
use Rattle.refusals.specs.Outcome.{Outcome, onward}
use Rattle.floats.specs.Whole.{nought}
use Rattle.calendar.specs.declared.CalendarDate.{CalendarDate}
use Rattle.julian.specs.declared.JulianDate.{JulianDate}
use Rattle.julian.specs.Calendar.{calendar_to_julian, julian_to_calendar}
use Rattle.leap_table.specs.declared.offsets.DayOffsets.{DayOffsets}
use Rattle.leap_table.specs.rows.Table.{Row}
use Rattle.leap_table.specs.offsets.Offset.{tai_utc_offset}
use Rattle.leap_table.specs.offsets.Leap.{day_offsets}

-- at 0h
unfoldable pub offset_at0h : List Row → CalendarDate → Outcome Float
offset_at0h rows t = tai_utc_offset rows t.year (pos t.month) (pos t.day) nought

-- at 0h, at 12h and at 24h
unfoldable pub offsets_of : List Row → CalendarDate → Outcome DayOffsets
offsets_of rows t = day_offsets rows t.year (pos t.month) (pos t.day)

unfoldable pub midnight_of : CalendarDate → Outcome JulianDate
midnight_of t = calendar_to_julian t.year (pos t.month) (pos t.day)

-- at 0h of the day of a Julian date
unfoldable pub offset_of_date : List Row → Float → Float → Outcome Float
offset_of_date rows jd1 jd2 = onward (julian_to_calendar jd1 jd2) (λ c. offset_at0h rows c.date)
