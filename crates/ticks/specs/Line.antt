-- The straight line between two marker passes. Written from document 02, item 10: "a TAI millisecond on the straight line between its neighbours, rounded
-- down". Assumes nothing.
use Rattle.std.specs.Prelude.{ℕ, ◌+◌, ◌-◌, ◌*◌, ◌/◌}

-- the millisecond at tick t on the line through tick t0 at millisecond m0 and tick t1 at m1, rounded down
unfoldable pub line_at : ℕ → ℕ → ℕ → ℕ → ℕ → ℕ
line_at t0 m0 t1 m1 t = m0 + (t - t0) * (m1 - m0) / (t1 - t0)
