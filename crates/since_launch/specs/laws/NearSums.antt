-- How near the milliseconds are to those of the exact dates, on the grid and off it. Written from the request, "with a stated bound elsewhere". The dates are
-- worth (P - N) / L and (P' - N') / L days. Assumes nothing.
use Rattle.std.specs.Prelude.{ℕ, ◌+◌, ◌*◌, ◌^◌, ◌≤◌}
use Rattle.rounding.specs.Value.{L}

-- |r - 86400000 ((P' - N') - (P - N)) / L| ≤ 1/2 + 5 * 84375 / 2 ^ 42, both sides times 2 ^ 43 L: 0.5 ms and five units of 2 ^ -52 day, which are 96 ps
pub record NearMillis (P N P' N' r : ℕ) : Type 0 where
  pub over : 2 ^ 43 * (r * L + 86400000 * (N' + P)) ≤ 2 ^ 43 * (86400000 * (P' + N)) + (2 ^ 42 + 10 * 84375) * L
  pub under : 2 ^ 43 * (86400000 * (P' + N)) ≤ 2 ^ 43 * (r * L + 86400000 * (N' + P)) + (2 ^ 42 + 10 * 84375) * L
