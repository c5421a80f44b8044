-- UTC times to the millisecond from 1972 on: which are refused, and their exact TAI. Written from document 02, item 11: "A date or time fault has
-- `utc_from_calendar`'s number, a millisecond over 999 is 4 .. years before 1972 are number 1"; document 01's order is year, month, day, no next day, time. All
-- by whole numbers: from 1972 on TAI-UTC is whole seconds. Assumes nothing.
use Rattle.std.specs.Prelude.{ℕ, ◌+◌, ◌-◌, ◌*◌, Bool, cond, ◌&&◌, List, eqb, leb, ltb, pos, nat_abs}
use Rattle.std.specs.Int.Signed.{lt_z}
use Rattle.refusals.specs.Outcome.{Outcome, answer, refusal, onward}
use Rattle.calendar.specs.declared.CalendarDate.{CalendarDate}
use Rattle.calendar.specs.Refusals.{next_of}
use Rattle.calendar.specs.DayCount.{mjd_number}
use Rattle.leap_table.specs.rows.Table.{Row}
use Rattle.leap_table.specs.offsets.WholeSeconds.{whole_seconds}
use Rattle.standby.specs.declared.UtcTime.{UtcTime}

-- TAI-UTC on the date, and on the next one
abbrev pub offset_on_date : List Row → UtcTime → ℕ
offset_on_date rows t = whole_seconds rows t.year t.month

abbrev pub offset_after : List Row → CalendarDate → ℕ
offset_after rows next = whole_seconds rows next.year next.month

-- the seconds of the day's last minute: a leap second makes it longer, one left out makes it shorter
unfoldable pub last_minute : List Row → UtcTime → CalendarDate → ℕ
last_minute rows t next = 60 + offset_after rows next - offset_on_date rows t

-- the time is one of a day whose last minute has `last` seconds
unfoldable pub in_its_day : UtcTime → ℕ → Bool
in_its_day t last =
    (leb t.hour 23 && leb t.minute 59)
    && (leb t.millis 999 && ltb t.second (cond (eqb t.hour 23 && eqb t.minute 59) last 60))

-- the seconds of the day before the time
unfoldable pub time_seconds : UtcTime → ℕ
time_seconds t = 3600 * t.hour + 60 * t.minute + t.second

-- the Modified Julian Date
abbrev pub mjd_day : UtcTime → ℕ
mjd_day t = nat_abs (mjd_number t.year (pos t.month) (pos t.day))

-- the exact TAI in milliseconds from 0h TAI of Modified Julian Date 0; a day of TAI has 86,400 s
unfoldable pub tai_ms : List Row → UtcTime → ℕ
tai_ms rows t = 1000 * (86400 * mjd_day t + time_seconds t + offset_on_date rows t) + t.millis

-- 4: the time is not in the day
unfoldable pub instant_on : List Row → UtcTime → CalendarDate → Outcome ℕ
instant_on rows t next = cond (in_its_day t (last_minute rows t next)) (answer (tai_ms rows t)) (refusal 4)

-- 1: year before 1972; 2, 3 and 5 are the calendar's
unfoldable pub instant : List Row → UtcTime → Outcome ℕ
instant rows t =
    cond (lt_z t.year (pos 1972)) (refusal 1)
    (onward (next_of t.year (pos t.month) (pos t.day)) (λ next. instant_on rows t next))
