-- The whole milliseconds of U - W units of 2 ^ -52 day, which are 84375 (U - W) / 2 ^ 42 ms. Written from the request: "to the nearest, halves up", and 18 for
-- "a result that is not 0 to 2^40 - 1". Assumes nothing.
use Rattle.std.specs.Prelude.{ℕ, ◌+◌, ◌*◌, ◌^◌, ◌≤◌, ◌<◌}
use Rattle.refusals.specs.Outcome.{Outcome, answer, refusal}

-- r - 1 / 2 ≤ 84375 (U - W) / 2 ^ 42 < r + 1 / 2, all times 2 ^ 43
pub record NearestMillis (U W r : ℕ) : Type 0 where
  pub over : 2 * r * 2 ^ 42 + 2 * 84375 * W ≤ 2 * 84375 * U + 2 ^ 42
  pub under : 2 * 84375 * U < 2 * r * 2 ^ 42 + 2 ^ 42 + 2 * 84375 * W

-- the number nearest where it is from 0 to 2 ^ 40 - 1; below -1/2 ms, and from 2 ^ 40 - 1/2 ms on, 18
pub data MillisDecided (U W : ℕ) : Outcome ℕ → Type 0 where
  within : (r : ℕ) → r < 2 ^ 40 → NearestMillis U W r → MillisDecided U W (answer r)
  before : 2 * 84375 * U + 2 ^ 42 < 2 * 84375 * W → MillisDecided U W (refusal 18)
  past : 2 ^ 41 * 2 ^ 42 + 2 * 84375 * W ≤ 2 * 84375 * U + 2 ^ 42 → MillisDecided U W (refusal 18)
