-- The milliseconds between two places are the nearest, and 18 exactly where these are not 0 to 2 ^ 40 - 1; no other outcome is. Assumes nothing.
use mathlib.Core.Path.{◌≡◌, refl, ap}
use Prim.Native.Nat.{ℕ, ◌+◌, ◌-◌, ◌*◌, ◌/◌, ◌^◌, ◌≤◌, ◌<◌}
use native.Mathlib.Omega.{arith}
use mathlib.Core.Bool.{Bool, true, false, cond}
use lib.Dec.{leb, ltb}
use borrow.Author.Tests.{leb-true, leb-false, ltb-true, ltb-false}
use Rattle.refusals.specs.Outcome.{Outcome, answer, refusal}
use Rattle.since_launch.specs.Millis.{in_range, count_of}
use Rattle.since_launch.specs.laws.NearestMillis.{NearestMillis, MillisDecided, within, before, past}

pub count-decided : (p q : ℕ) → MillisDecided q p (count_of p q)
unfolding count_of in_range
count-decided p q = go (leb (84375 * p) (84375 * q + 2199023255552)) (ltb ((84375 * q + 2199023255552 - 84375 * p) / 4398046511104) 1099511627776) refl refl
  where
    go : (b c : Bool) → leb (84375 * p) (84375 * q + 2199023255552) ≡ b → ltb ((84375 * q + 2199023255552 - 84375 * p) / 4398046511104) 1099511627776 ≡ c
        → MillisDecided q p (cond b (cond c (answer ((84375 * q + 2199023255552 - 84375 * p) / 4398046511104)) (refusal 18)) (refusal 18))
    go true true e f =
        let h : 84375 * p ≤ 84375 * q + 2199023255552 = leb-true _ _ e in
        let k : (84375 * q + 2199023255552 - 84375 * p) / 4398046511104 < 1099511627776 = ltb-true _ _ f in
        within ((84375 * q + 2199023255552 - 84375 * p) / 4398046511104) k (record { over = omega arith; under = omega arith })
    go true false e f =
        let h : 84375 * p ≤ 84375 * q + 2199023255552 = leb-true _ _ e in
        let k : 1099511627776 ≤ (84375 * q + 2199023255552 - 84375 * p) / 4398046511104 = ltb-false _ _ f in
        past (omega arith)
    go false c e f = let h : 84375 * q + 2199023255552 < 84375 * p = leb-false _ _ e in before (omega arith)

-- the same difference
pub decided-move : {U W U' W' : ℕ} {o : Outcome ℕ} → U + W' ≡ U' + W → MillisDecided U W o → MillisDecided U' W' o
decided-move e (within r h n) = within r h (record { over = omega (arith, n.over); under = omega (arith, n.under) })
decided-move e (before h) = before (omega arith)
decided-move e (past h) = past (omega arith)

-- there is one outcome
one-nearest : {U W r s : ℕ} → NearestMillis U W r → NearestMillis U W s → r ≡ s
one-nearest n k = omega (arith, n.over, n.under, k.over, k.under)

pub one-outcome : {U W : ℕ} {o o' : Outcome ℕ} → MillisDecided U W o → MillisDecided U W o' → o ≡ o'
one-outcome (within r h n) (within s k m) = ap answer (one-nearest n m)
one-outcome (within r h n) (before k) = absurd (omega (arith, n.over))
one-outcome (within r h n) (past k) = absurd (omega (arith, n.under))
one-outcome (before k) (within r h n) = absurd (omega (arith, n.over))
one-outcome (past k) (within r h n) = absurd (omega (arith, n.under))
one-outcome (before h) (before k) = refl
one-outcome (before h) (past k) = refl
one-outcome (past h) (before k) = refl
one-outcome (past h) (past k) = refl

-- what an answer says
pub answered-nearest : {U W r : ℕ} {o : Outcome ℕ} → MillisDecided U W o → o ≡ answer r → NearestMillis U W r × (r < 2 ^ 40)
answered-nearest {U} {W} {r} (within s h n) e = let k : s ≡ r = cc in rw (← k) (n, h)
answered-nearest (before h) e = let z : ◌≡◌ {A = ℕ} 0 1 = cc in absurd (omega arith)
answered-nearest (past h) e = let z : ◌≡◌ {A = ℕ} 0 1 = cc in absurd (omega arith)
