-- Decimal numbers written digit by digit. Assumes nothing.
use Prim.Native.Nat.{ℕ, zero, suc, ◌+◌, ◌/◌, ◌≤◌, ◌<◌}
use native.Mathlib.Omega.{arith}
use mathlib.Core.Path.{◌≡◌, refl}
use mathlib.Core.List.{List, [], ◌∷◌, ◌++◌}
use mathlib.Core.Bool.{Bool, true, false, cond}
use lib.ListN.{length, length-append}
use lib.Dec.{ltb}
use borrow.Author.Tests.{lt-ltb, le-ltb}
use Rattle.numerals.specs.digits.Decimal.{last, digits_in}
use Rattle.numerals.specs.digits.Placed.{Placed}
use Rattle.numerals.proofs.digits.Places.{then}

-- at most as many digits as there is room for
pub digits-most : (k n : ℕ) → length (digits_in k n) ≤ k
unfolding digits_in
digits-most zero n = omega arith
digits-most (suc k) n = by (ltb n 10) (digits-most k (n / 10))
  where
    by : (b : Bool) → length (digits_in k (n / 10)) ≤ k → length (cond b (last n ∷ []) (digits_in k (n / 10) ++ (last n ∷ []))) ≤ suc k
    by true h = omega arith
    by false h = simp length-append (omega arith)

pub first-digit : (n : ℕ) → last n ∷ [] ≡ digits_in 1 n
unfolding digits_in
first-digit n = by (ltb n 10)
  where
    by : (b : Bool) → last n ∷ [] ≡ cond b (last n ∷ []) ([] ++ (last n ∷ []))
    by true = refl
    by false = refl

pub one-digit : {d d1 : List ℕ} {at r : ℕ} (n k : ℕ) → n < 10 → Placed d at (last n ∷ []) r d1 → Placed d at (digits_in (suc k) n) r d1 × (r ≤ at + suc k)
unfolding digits_in
one-digit n k h p = (rw (lt-ltb n 10 h) p, omega (arith, p.ends))

pub more-digits : {d d1 d2 : List ℕ} {at r r2 : ℕ} (n k : ℕ) → 10 ≤ n → at + suc k ≤ length d → Placed d at (digits_in k (n / 10)) r d1
    → Placed d1 r (last n ∷ []) r2 d2
    → Placed d at (digits_in (suc k) n) r2 d2 × (r2 ≤ at + suc k)
unfolding digits_in
more-digits n k h room p q =
    let most = digits-most k (n / 10) in
    (rw (le-ltb n 10 h) (then p q (omega (arith, p.ends, q.ends))), omega (arith, p.ends, q.ends))
