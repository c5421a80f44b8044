-- What Drift.antt computed, at each month.
-- Assumes nothing.
use mathlib.Core.Path.{◌≡◌, subst}
use Prim.Native.Nat.{ℕ, zero, suc, ◌+◌, ◌*◌, ◌/◌, ◌%◌, ◌<◌}
use native.Mathlib.Omega.{arith}
use lib.Dec.{T}
use Rattle.leap_days.proofs.drift.Tests.{each}
use Rattle.leap_days.proofs.drift.Drift.{month_test, part, from-1960, from-1962, from-1964, from-1966, from-1968, from-1970}

parts : (b : ℕ) → b < 6 → part b
parts zero h = from-1960
parts (suc zero) h = from-1962
parts (suc (suc zero)) h = from-1964
parts (suc (suc (suc zero))) h = from-1966
parts (suc (suc (suc (suc zero)))) h = from-1968
parts (suc (suc (suc (suc (suc zero))))) h = from-1970
parts (suc (suc (suc (suc (suc (suc b)))))) h = absurd (omega arith)

split : (i : ℕ) → 24 * (i / 24) + i % 24 ≡ i
split i = omega arith

pub all-months : (i : ℕ) → i < 144 → T (month_test i)
all-months i h =
    subst (λ (k : ℕ). T (month_test k)) (split i)
    (each (λ k. month_test (24 * (i / 24) + k)) 24 (i % 24) (omega arith) (parts (i / 24) (omega arith)))
