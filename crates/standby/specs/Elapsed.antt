-- Midnight of a date, and the milliseconds that a clock shows since. Written from ISO 8601: an hour has 60 minutes, a minute 60 seconds. Assumes nothing.
use Rattle.std.specs.Prelude.{ℕ, ◌+◌, ◌*◌, ℤ}
use Rattle.calendar.specs.declared.CalendarDate.{CalendarDate}
use Rattle.standby.specs.declared.UtcTime.{UtcTime}

abbrev pub at0h : ℤ → ℕ → ℕ → UtcTime
at0h y m d = record { year = y; month = m; day = d; hour = 0; minute = 0; second = 0; millis = 0 }

abbrev pub day_start : UtcTime → UtcTime
day_start t = at0h t.year t.month t.day

abbrev pub date_start : CalendarDate → UtcTime
date_start d = at0h d.year d.month d.day

abbrev pub clock_ms : UtcTime → ℕ
clock_ms t = ((t.hour * 60 + t.minute) * 60 + t.second) * 1000 + t.millis
