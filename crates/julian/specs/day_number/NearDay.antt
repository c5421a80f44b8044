-- How near the day and the fraction are to the exact ones off the grid. Written from document 01, "Day and fraction", and its off-grid bound over scaled whole
-- numbers. Every finite float is a whole number of 2 ^ -1074, of which L are 1.0, and here parts and sums are counted in that unit. Assumes nothing.
use Rattle.std.specs.Prelude.{ℕ, ◌+◌, ◌*◌, ◌^◌, ◌≤◌, ℤ, Float}
use Rattle.rounding.specs.Value.{Val, L, plus_z, minus_z}

-- |day + fraction - (sum + 1/2)| ≤ 2 ^ -51, both sides times 2 ^ 51 L
pub record DayNear (sum day : ℤ) (fraction : Float) : Type 0 where
  pub units : ℕ
  pub val : Val fraction units 0 L
  pub over : 2 ^ 51 * (plus_z day * L + units + minus_z sum) ≤ 2 ^ 51 * (plus_z sum + minus_z day * L) + 2 ^ 50 * L + L
  pub under : 2 ^ 51 * (plus_z sum + minus_z day * L) + 2 ^ 50 * L ≤ 2 ^ 51 * (plus_z day * L + units + minus_z sum) + L
