-- Going on with an outcome: an answer goes on, a refusal stays, and an answer comes from an answer. Assumes nothing.
use mathlib.Core.Path.{◌≡◌, refl, ap}
use Prim.Native.Nat.{ℕ}
use native.Mathlib.Omega.{arith}
use Rattle.refusals.specs.Outcome.{Outcome, answer, refusal, onward}

pub went : {A B : Type 0} {o : Outcome A} {a : A} (k : A → Outcome B) → o ≡ answer a → onward o k ≡ k a
unfolding onward
went {A} k e = ap (λ (o : Outcome A). onward o k) e

pub stopped : {A B : Type 0} {o : Outcome A} {n : ℕ} (k : A → Outcome B) → o ≡ refusal n → onward o k ≡ refusal n
unfolding onward
stopped {A} k e = ap (λ (o : Outcome A). onward o k) e

pub came : {X Y : Type 0} (o : Outcome X) (k : X → Outcome Y) (y : Y) → onward o k ≡ answer y → (x : X) × (o ≡ answer x) × (k x ≡ answer y)
unfolding onward
came (answer x) k y e = (x, refl, e)
came (refusal n) k y e = let z : ◌≡◌ {A = ℕ} 0 1 = cc in absurd (omega arith)
