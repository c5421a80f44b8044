-- What holds of each number below n, one by one, holds of every number below n. Assumes nothing.
use Prim.Native.Nat.{ℕ, zero, suc, ◌<◌, ◌≤◌}
use native.Mathlib.Omega.{arith}
use mathlib.Core.Path.{◌≡◌, refl, subst}
use mathlib.Core.Bool.{Bool, true, false}
use lib.Dec.{ltb}
use borrow.Author.Tests.{ltb-true, ltb-false}

abbrev pub EachBelow : (ℕ → Type 0) → ℕ → Type 0
EachBelow P zero = Unit
EachBelow P (suc n) = EachBelow P n × P n

pub from_each : (P : ℕ → Type 0) (n : ℕ) → EachBelow P n → (k : ℕ) → k < n → P k
from_each P zero h k l = absurd (omega arith)
from_each P (suc n) h k l = either (ltb k n) (ltb-true k n) (ltb-false k n) (from_each P n h.0 k)
  where
    either : (b : Bool) → (b ≡ true → k < n) → (b ≡ false → n ≤ k) → (k < n → P k) → P k
    either true t f rest = rest (t refl)
    either false t f rest = subst P (let e : n ≡ k = omega (arith, f refl) in e) h.1
