-- A number of the announced rows counted from 0, as the machine tests and reads it.
-- Assumes nothing.
use Rattle.std.proofs.Common.{◌≡◌, ℕ, ◌<◌, ◌≤◌, Bool, true, false, cond, T, leb, ℤ, pos, negsuc, nat_abs, sym, refl, ap, ◌∙◌, true≢false, arith, to_z-of_z, w32}
use Rattle.std.proofs.Common.{Fits, SFits, to_z, of_z, ltb-true, leb-false, leb-true}
use lib.Signed.{lt_z, le_z, non_neg}
use borrow.Author.Tests.{lt-leb}
use Rattle.leap_table.specs.rows.Announced.{natural, least}

least-left : (a b : ℕ) → least a b ≤ a
least-left a b = go (leb a b) refl
  where
    go : (t : Bool) → leb a b ≡ t → cond t a b ≤ a
    go true e = omega arith
    go false e = omega (arith, leb-false a b e)

before-zero : (z : ℤ) → lt_z z (pos 0) ≡ true → 0 ≡ natural z
before-zero (pos n) e = absurd (omega (arith, ltb-true n 0 e))
before-zero (negsuc n) e = refl

since-zero : (z : ℤ) → lt_z z (pos 0) ≡ false → T (non_neg z) × (nat_abs z ≡ natural z)
since-zero (pos n) e = (tt, refl)
since-zero (negsuc n) e = absurd (true≢false e)

small : (z : ℤ) → SFits w32 z → natural z < 2147483648
small (pos n) f = omega (arith, f.sfits)
small (negsuc n) f = omega arith

module _ (z : ℤ) (f : SFits w32 z) where
  pub negative : lt_z (to_z w32 (of_z w32 z)) (pos 0) ≡ true → (0 ≡ natural z) × (0 < 2147483648)
  negative e = (before-zero z (ap (λ (x : ℤ). lt_z x (pos 0)) (sym (to_z-of_z f)) ∙ e), omega arith)

  pub read-natural : natural (to_z w32 (of_z w32 z)) ≡ natural z
  read-natural = ap natural (to_z-of_z f)

  module _ (e : lt_z (to_z w32 (of_z w32 z)) (pos 0) ≡ false) where
    read : T (non_neg (to_z w32 (of_z w32 z))) × (nat_abs (to_z w32 (of_z w32 z)) ≡ natural z)
    read = let (a, b) = since-zero (to_z w32 (of_z w32 z)) e in (a, b ∙ read-natural)

    pub casts : T (non_neg (to_z w32 (of_z w32 z))) × Fits w32 (nat_abs (to_z w32 (of_z w32 z)))
    casts = (read.0, record { fits = omega (arith, read.1, small z f) })

    pub counted : (nat_abs (to_z w32 (of_z w32 z)) ≡ natural z) × (nat_abs (to_z w32 (of_z w32 z)) < 2147483648)
    counted = (read.1, omega (arith, read.1, small z f))

-- an announced month has begun in month n where it is not above n cut at the largest announced number
pub begun-or-not : (z : ℤ) (n : ℕ) → SFits w32 z → (le_z z (pos (least n 2147483647)) ≡ true → natural z ≤ n)
    × (le_z z (pos (least n 2147483647)) ≡ false → n < natural z)
begun-or-not (negsuc k) n f = (λ e. omega arith, λ e. absurd (true≢false e))
begun-or-not (pos k) n f = (λ e. omega (arith, leb-true k (least n 2147483647) e, least-left n 2147483647), λ e. above (leb-false k (least n 2147483647) e))
  where
    least-is : (b : Bool) → leb n 2147483647 ≡ b → least n 2147483647 ≡ cond b n 2147483647
    least-is b e = rw e

    above : least n 2147483647 < k → n < k
    above h = go (leb n 2147483647) refl
      where
        go : (b : Bool) → leb n 2147483647 ≡ b → n < k
        go true e = omega (arith, h, least-is true e)
        go false e = absurd (omega (arith, h, least-is false e, small (pos k) f))

-- the same by the other test: a month above n cut at that number has not begun
pub not_begun : (z : ℤ) (n : ℕ) → SFits w32 z → lt_z (pos (least n 2147483647)) z ≡ true → n < natural z
not_begun (negsuc k) n f e = absurd (true≢false (sym e))
not_begun (pos k) n f e = (begun-or-not (pos k) n f).1 (lt-leb k (least n 2147483647) (ltb-true (least n 2147483647) k e))
