-- Where the day and the fraction of an answered date lie. Written from document 01, "Day and fraction". Assumes nothing.
use Rattle.std.specs.Prelude.{◌≤◌, ℤ}
use Rattle.rounding.specs.Value.{plus_z, minus_z}

-- -68570 ≤ z ≤ 1000000000
pub record InDays (z : ℤ) : Type 0 where
  pub top : plus_z z ≤ 1000000000
  pub bottom : minus_z z ≤ 68570
