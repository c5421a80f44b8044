-- What a C caller gets of a run: the code, and the three slices that are written. Written from include/celestial_time.h and docs/DECISIONS.md 24. Assumes
-- nothing.
use Rattle.std.specs.Prelude.{◌≡◌, List, ℕ, ℤ}
use Rattle.c_answers.specs.Delivery.{code}
use Rattle.runs.specs.by_formula.Run.{RunCall}

-- the call returned r, and the dates and the numbers are as c says: all their bytes
pub record RunDelivered (c : RunCall) (r : ℤ) (out1 out2 numbers : List ℕ) : Type 0 where
  pub returned : r ≡ code c.answer
  pub first : out1 ≡ c.out1
  pub second : out2 ≡ c.out2
  pub numbered : numbers ≡ c.numbers
