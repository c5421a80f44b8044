-- What a C caller gets of the milliseconds of a run: the code, and the two slices that are written. Written from include/celestial_time.h and
-- docs/DECISIONS.md 24. Assumes nothing.
use Rattle.std.specs.Prelude.{◌≡◌, List, ℕ, ℤ}
use Rattle.c_answers.specs.Delivery.{code}
use Rattle.since_launch.specs.Run.{MillisCall}

-- the call returned r, and the milliseconds and the numbers are as c says: all their bytes
pub record MillisDelivered (c : MillisCall) (r : ℤ) (millis numbers : List ℕ) : Type 0 where
  pub returned : r ≡ code c.answer
  pub first : millis ≡ c.out
  pub second : numbers ≡ c.numbers
