-- When no step of the integer sum of the days wraps: of the whole numbers a and b of the two parts, the days `up` and `more` carried, and the days `down`
-- borrowed. Written from the Rust utc_tai/calendar.rs, day_number_and_fraction, whose order of additions it follows. Assumes nothing.
use Rattle.std.specs.Prelude.{ℕ, ◌+◌, ◌^◌, ◌≤◌, ◌<◌, ℤ}
use Rattle.rounding.specs.Value.{plus_z, minus_z}

pub record Sums (a b : ℤ) (up more down : ℕ) : Type 0 where
  pub few : up ≤ 2
  pub one : more ≤ 1
  pub least : down ≤ 1
  pub top : plus_z a + plus_z b < 2 ^ 63
  pub bottom : minus_z a + minus_z b ≤ 2 ^ 63
  pub high : plus_z a + plus_z b + up + more ≤ minus_z a + minus_z b + down + 1000000000
  pub low : minus_z a + minus_z b + down ≤ plus_z a + plus_z b + up + more + 68570
