-- The line between two passes as the code computes it: it does not pass the second pass's millisecond. Assumes nothing.
use Prim.Native.Nat.{ℕ, ◌+◌, ◌-◌, ◌*◌, ◌/◌, ◌≤◌}
use native.Mathlib.Omega.{arith}
use mathlib.Core.Path.{◌≡◌, ap}
use Rattle.ticks.specs.Line.{line_at}
use Rattle.ticks.proofs.Halves.{quotient-small}

module _ (t0 t1 m0 m1 t r : ℕ) (e : r ≡ (t - t0) * (m1 - m0) / (t1 - t0)) where
  pub line-is : m0 + r ≡ line_at t0 m0 t1 m1 t
  unfolding line_at
  line-is = ap (λ (x : ℕ). m0 + x) e

  pub line-under : t ≤ t1 → m0 ≤ m1 → m0 + r ≤ m1
  line-under h k = omega (arith, e, quotient-small (t - t0) (m1 - m0) (t1 - t0) (omega arith))
