-- How many milliseconds lie between two midnights, by the leap that `leap_at_end_of_day` tells of the day between them: 1,000 times 86,400 and the leap.
-- Written from document 02, item 11, "leap seconds counted", and document 01, "TAI minus UTC": from 1972 on a leap is 0.0, 1.0 or -1.0. Assumes nothing.
use Rattle.std.specs.Prelude.{ℕ, ◌+◌, ◌≡◌, List, ℤ, pos, Float}
use Rattle.refusals.specs.Outcome.{answer}
use Rattle.floats.specs.Whole.{nought, one}
use Rattle.leap_table.specs.rows.Table.{Row}
use Rattle.leap_table.specs.offsets.Leap.{leap_at_end_of_day}
use Rattle.time_of_day.specs.ExactTime.{minus_one_f}
use Rattle.standby.specs.declared.UtcTime.{UtcTime}
use Rattle.standby.specs.Times.{instant}
use Rattle.standby.specs.Elapsed.{day_start, clock_ms}

pub data ElapsedBy (x : Float) (s e : ℕ) : Type 0 where
  no_leap : x ≡ nought → e ≡ s + 86400000 → ElapsedBy x s e
  leap-second : x ≡ one → e ≡ s + 86401000 → ElapsedBy x s e
  second_less : x ≡ minus_one_f → e ≡ s + 86399000 → ElapsedBy x s e

-- the leap of the date, and the length by it
pub record DayElapsed (rows : List Row) (y : ℤ) (m d s e : ℕ) : Type 0 where
  pub leap : Float
  pub is : leap_at_end_of_day rows y (pos m) (pos d) ≡ answer leap
  pub length : ElapsedBy leap s e

-- midnight before a time is taken where the time is, and the clock has gone on since by what it shows
pub record ByClock (rows : List Row) (t : UtcTime) (e : ℕ) : Type 0 where
  pub begin : ℕ
  pub is : instant rows (day_start t) ≡ answer begin
  pub since : e ≡ begin + clock_ms t
