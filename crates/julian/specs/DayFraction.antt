-- The fraction of a day that a time of day is. Written from document 01, "Refusals by number" (refusal 4), and the Rust's `day_fraction` (julian/mod.rs).
-- Assumes nothing.
use Rattle.std.specs.Prelude.{ℕ, ◌+◌, ◌*◌, Bool, cond, ◌&&◌, eqb, leb, pos, Float}
use Rattle.std.specs.Float.{binary64}
use Rattle.std.specs.Float.Ieee.{of_int, add, mul, div, lt, le}
use Rattle.std.specs.Float.Ieee.Scale.{finite}
use Rattle.refusals.specs.Outcome.{Outcome, answer, refusal}
use Rattle.floats.specs.Whole.{nought}
use Rattle.constants.specs.Constants.{decimal, seconds_per_day}

-- what the second is below; `leap` is the day's length less 86,400 s
unfoldable pub second_limit : ℕ → ℕ → Float → Float
second_limit hour minute leap = cond (eqb hour 23 && eqb minute 59) (add binary64 (decimal 60 0) leap) (decimal 60 0)

-- A second that is a NaN is neither 0.0 or more nor below the limit. A day whose leap is not finite has no times, where the Rust takes every one but those of
-- the last minute: no leap of a day is so.
unfoldable pub time_in_day : ℕ → ℕ → Float → Float → Bool
time_in_day hour minute second leap =
    (leb hour 23 && leb minute 59) && (finite leap && (le nought second && lt second (second_limit hour minute leap)))

-- 4 where the time is not in the day
unfoldable pub day_fraction : ℕ → ℕ → Float → Float → Outcome Float
day_fraction hour minute second leap =
    cond (time_in_day hour minute second leap)
    (answer (div binary64 (add binary64 (mul binary64 (decimal 60 0) (of_int binary64 (pos (60 * hour + minute)))) second) (add binary64 seconds_per_day leap)))
    (refusal 4)
