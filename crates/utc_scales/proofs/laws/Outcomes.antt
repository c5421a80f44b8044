-- What holds of an outcome, step by step. Assumes nothing.
use mathlib.Core.Path.{◌≡◌, sym, subst}
use Prim.Native.Nat.{ℕ}
use native.Mathlib.Omega.{arith}
use Rattle.refusals.specs.Outcome.{Outcome, answer, refusal, onward}
use Rattle.utc_scales.specs.laws.Claims.{Holds, answers, refuses}

pub holds-answer : {X : Type 0} {A : X → Type 0} {R : ℕ → Type 0} {o : Outcome X} (x : X) → o ≡ answer x → A x → Holds A R o
holds-answer {X} {A} {R} x e h = subst (λ (o : Outcome X). Holds A R o) (sym e) (answers h)

pub holds-refusal : {X : Type 0} {A : X → Type 0} {R : ℕ → Type 0} {o : Outcome X} (n : ℕ) → o ≡ refusal n → R n → Holds A R o
holds-refusal {X} {A} {R} n e h = subst (λ (o : Outcome X). Holds A R o) (sym e) (refuses h)

pub holds-onward : {X Y : Type 0} {A : X → Type 0} {B : Y → Type 0} {R : ℕ → Type 0} {o : Outcome X} (k : X → Outcome Y) → Holds A R o
    → ((x : X) → A x → Holds B R (k x)) → Holds B R (onward o k)
unfolding onward
holds-onward k (answers h) g = g _ h
holds-onward k (refuses h) g = refuses h

pub holds_more : {X : Type 0} {A B : X → Type 0} {R S : ℕ → Type 0} {o : Outcome X} → ((x : X) → A x → B x) → ((n : ℕ) → R n → S n) → Holds A R o → Holds B S o
holds_more f g (answers h) = answers (f _ h)
holds_more f g (refuses h) = refuses (g _ h)

-- A holds of the answer that is given
pub holds_at : {X : Type 0} {A : X → Type 0} {R : ℕ → Type 0} {o : Outcome X} (z : X) → o ≡ answer z → Holds A R o → A z
holds_at {X} {A} {R} z e (answers {x} h) = let k : x ≡ z = cc in subst A k h
holds_at z e (refuses h) = let w : ◌≡◌ {A = ℕ} 0 1 = cc in absurd (omega arith)
