-- UTC from Unix time. Written from document 01, "Julian date" ("`UTC::new` divides downward") and "Refusals by number" (order: 8, 6, date, 4), and the Rust's
-- `UTC::new` (scales/utc/mod.rs). Assumes nothing.
use Rattle.std.specs.Prelude.{ℕ, ◌-◌, ◌/◌, ◌%◌, cond, List, ltb, ℤ, pos, negsuc, Float}
use Rattle.std.specs.Float.{binary64}
use Rattle.std.specs.Float.Ieee.{of_int, add, div}
use Rattle.refusals.specs.Outcome.{Outcome, refusal, onward}
use Rattle.constants.specs.Constants.{nanoseconds_per_second, unix_epoch_jd}
use Rattle.julian.specs.declared.JulianDate.{JulianDate}
use Rattle.julian.specs.Calendar.{julian_to_calendar}
use Rattle.leap_table.specs.rows.Table.{Row}
use Rattle.utc.specs.FromCalendar.{utc_from_calendar}

-- the whole days in a number of seconds, downward: second -1 lies in day -1
unfoldable pub unix_day : ℤ → ℤ
unix_day (pos n) = pos (n / 86400)
unix_day (negsuc n) = negsuc (n / 86400)

-- the seconds since the midnight of that day
unfoldable pub second_of_unix_day : ℤ → ℕ
second_of_unix_day (pos n) = n % 86400
second_of_unix_day (negsuc n) = 86399 - n % 86400

-- the second of its minute, with the nanoseconds
unfoldable pub second_with_nanos : ℕ → ℕ → Float
second_with_nanos second nanos = add binary64 (of_int binary64 (pos (second % 60))) (div binary64 (of_int binary64 (pos nanos)) nanoseconds_per_second)

-- 8: nanos 1,000,000,000 or more; then the refusals of the day in the calendar, and those of the time on its date
unfoldable pub utc_new : List Row → ℤ → ℕ → Outcome JulianDate
utc_new rows seconds nanos =
    cond (ltb nanos 1000000000)
    (onward (julian_to_calendar unix_epoch_jd (of_int binary64 (unix_day seconds))) (λ c.
    let s = second_of_unix_day seconds in
    utc_from_calendar rows c.date.year c.date.month c.date.day (s / 3600) (s % 3600 / 60) (second_with_nanos s nanos)))
    (refusal 8)
