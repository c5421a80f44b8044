-- The time of day that a count of milliseconds shows. Written from document 01, "UTC text", and from the Rust's `to_iso8601` and `iso_string`
-- (scales/utc/mod.rs). Assumes nothing.
use Rattle.std.specs.Prelude.{ℕ, ◌-◌, ◌*◌, ◌/◌, ◌%◌, min, Bool, cond, ℤ, pos, negsuc, ltb, Float}
use Rattle.std.specs.Float.Ieee.{lt}
use Rattle.floats.specs.Whole.{nought}
use Rattle.time_of_day.specs.declared.TimeOfDay.{TimeOfDay}
use Rattle.time_of_day.specs.declared.TimeShown.{TimeShown}
use Rattle.time_of_day.specs.declared.TimeShown.TheVariants.{At, NextMidnight}
use Rattle.time_of_day.specs.Milliseconds.{whole_leap, millis_of}

-- the minute of the day: a leap second belongs to the last one, which then runs to 61 s
abbrev pub minute_of : ℕ → ℕ
minute_of k = min (k / 60000) 1439

unfoldable pub time_of : ℕ → TimeOfDay
time_of k = record {
  hour = minute_of k / 60;
  minute = minute_of k % 60;
  second = (k - minute_of k * 60000) / 1000;
  milli = (k - minute_of k * 60000) % 1000;
}

-- The milliseconds at which the text is the next day's midnight, of the leap that counts. The Rust has no case for a leap below 0, and no fixed row
-- gives one: the third case is for announced rows, whose steps may be of -1 s (document 02, item 8).
unfoldable pub day_end : Float → ℕ
day_end leap = cond (lt nought leap) 86401000 (cond (lt leap nought) 86399000 86400000)

-- a count below 0 shows as 0. No fraction of a day has one (`counted`, in proofs/Count): this case is there so that the definition covers every float
unfoldable pub from_zero : ℤ → ℕ
from_zero (pos k) = k
from_zero (negsuc k) = 0

-- what a count shows on a day with the leap that counts
unfoldable pub shown_at : Float → ℕ → TimeShown
unfolding time_of day_end
shown_at leap k = cond (ltb k (day_end leap)) (At (time_of k)) NextMidnight

-- the milliseconds of a fraction of a day with the leap that counts, rounded by the rule `how`
unfoldable pub count_by : (Bool → ℕ → ℕ → ℕ) → Float → Float → ℕ
unfolding from_zero
count_by how fraction leap = from_zero (millis_of how fraction leap)

-- what a fraction of a day with any leap shows, where `count` says the milliseconds of a fraction and a leap that counts
unfoldable pub shown_by : (Float → Float → ℕ) → Float → Float → TimeShown
unfolding shown_at
shown_by count fraction leap = shown_at (whole_leap leap) (count fraction (whole_leap leap))

-- by a rule of rounding
abbrev pub shown_of : (Bool → ℕ → ℕ → ℕ) → Float → Float → TimeShown
shown_of how fraction leap = shown_by (count_by how) fraction leap
