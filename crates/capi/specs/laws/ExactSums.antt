-- The number that stands for an order, against the exact sums of two dates, (P - N) / L and (Q - M) / L: 0 where the first is smaller, 1 where they are one
-- number, 2 where the first is greater. Written from include/celestial_time.h. Assumes nothing.
use Rattle.std.specs.Prelude.{◌≡◌, ℕ, ◌+◌, ◌<◌}

pub data ByExactSums (P N Q M : ℕ) : ℕ → Type 0 where
  smaller : P + M < Q + N → ByExactSums P N Q M 0
  level : P + M ≡ Q + N → ByExactSums P N Q M 1
  greater : Q + N < P + M → ByExactSums P N Q M 2
