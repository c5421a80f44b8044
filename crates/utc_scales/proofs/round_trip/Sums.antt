-- The arithmetic of one evaluation, over natural numbers: f is the fraction, g - k the leap second's share of it and d TAI-UTC, both times 86400; p - n is f
-- stretched, c - e is d in days, s - t their rounded sum, x - A the days from jd1 to the midnight N, and y - z the rounded answer. Assumes nothing.
use mathlib.Core.Path.{◌≡◌}
use Prim.Native.Nat.{ℕ, ◌+◌, ◌-◌, ◌*◌, ◌≤◌, ◌<◌}
use native.Mathlib.Omega.{arith}
use Rattle.leap_table.specs.rows.Table.{most_seconds}
use Rattle.rounding.specs.Value.{L}
use Rattle.rounding.proofs.Value.{L-pos}
use Rattle.utc_scales.specs.round_trip.UtcDays.{H}
use Rattle.utc_scales.proofs.round_trip.Units.{h, h_small}

module _ (f g k d p n c e : ℕ) (b : f < L) (gf : g ≤ f) (kf : k ≤ f) (dL : d ≤ most_seconds * L)
    (p-over : 86400 * p + k ≤ 86400 * n + (86400 * f + g) + 113792 * h) (p-under : 86400 * f + g + 86400 * n ≤ 86400 * p + k + 113792 * h)
    (c_over : 86400 * c ≤ 86400 * e + d + 43 * h) (c_under : d + 86400 * e ≤ 86400 * c + 43 * h) where
  pub first-high : p + c < n + e + 2 * L
  first-high = omega (arith, h_small, L-pos)

  pub first-low : n + e < p + c + 2 * L
  first-low = omega (arith, h_small, L-pos)

  -- the stretched fraction with TAI-UTC is within L / 64 of the fraction
  pub more : 64 * (p + c) ≤ 64 * (n + e + f) + L
  more = omega (arith, h_small, L-pos)

  pub less : 64 * (n + e + f) ≤ 64 * (p + c) + L
  less = omega (arith, h_small, L-pos)

module _ (f N A up un x s t P M : ℕ) (is : x + H ≡ N) where
  pub second-high : N + f + un ≤ A + up + H + 4 * h → 1024 * up ≤ 1024 * un + 1027 * L → 64 * P ≤ 64 * (M + f) + L → s + M ≤ t + P + h → x + s < A + t + 2 * L
  second-high near u more i = omega (arith, h_small, L-pos)

  pub second-low : A + up + H ≤ N + f + un + 4 * h → 1024 * un ≤ 1024 * up + 1027 * L → 64 * (M + f) ≤ 64 * P + L → t + P ≤ s + M + h → A + t < x + s + 2 * L
  second-low near u less i = omega (arith, h_small, L-pos)

-- the last sum is rounded by at most q
module _ (f g k d p n c e N A x s t y z q E : ℕ) (is : x + H ≡ N) (kd : k ≤ d) (room : 200235 * h + 86400 * q ≤ E) where
  pub total-over : 86400 * p + k ≤ 86400 * n + (86400 * f + g) + 113792 * h → 86400 * c ≤ 86400 * e + d + 43 * h → s + (n + e) ≤ t + (p + c) + h
      → y + (A + t) ≤ z + (x + s) + q
      → 86400 * (y + A + H) ≤ 86400 * z + (86400 * (N + f) + (d + g - k)) + E
  total-over a b i j = omega arith

  pub total-under : 86400 * f + g + 86400 * n ≤ 86400 * p + k + 113792 * h → d + 86400 * e ≤ 86400 * c + 43 * h → t + (p + c) ≤ s + (n + e) + h
      → z + (x + s) ≤ y + (A + t) + q
      → 86400 * (N + f) + (d + g - k) + 86400 * z ≤ 86400 * (y + A + H) + E
  total-under a b i j = omega arith
