-- What the checks of signed operations ask, and what their results are, in terms of the numbers.
-- Assumes nothing.
use mathlib.Core.Path.{◌≡◌, refl, ap, sym, subst, ◌∙◌}
use mathlib.Core.Bool.{Bool, true, false, cond, true≢false}
use Prim.Native.Nat.{ℕ, zero, suc, ◌+◌, ◌-◌, ◌/◌, ◌%◌, ◌^◌, ◌≤◌, ◌<◌}
use native.Mathlib.Omega.{arith}
use native.Mathlib.Nat.{mod-le, le_refl, div-le_self}
use lib.Dec.{T, eqb, ltb}
use lib.IntN.{ℤ, pos, negsuc, nat_abs, neg_ℤ, sub_ℕ, ◌+ℤ◌}
use lib.Signed.{mag, quot_z, rem_z, lt_z, non_neg}
use mir.Syntax.{Width, w32, w64}
use mir.Val.{SFits, Fits, to_z, of_z}
use mir.Facts.{to_z-of_z}
use borrow.Author.Tests.{ne_eqb, ltb-true, ltb-false, lt-ltb, le-ltb}

-- ---- division of an i32 by a positive number
mag_neg : (r a : ℕ) → r ≤ suc a → mag (neg_ℤ (pos r)) ≤ a
mag_neg zero a h = omega arith
mag_neg (suc r) a h = omega arith

mag_quot : (z : ℤ) (k : ℕ) → mag (quot_z z (pos k)) ≤ mag z
mag_quot (pos a) k = div-le_self a k
mag_quot (negsuc a) k = mag_neg (suc a / k) a (div-le_self (suc a) k)

pub quot_fits : (z : ℤ) (k : ℕ) → SFits w32 z → SFits w32 (quot_z (to_z w32 (of_z w32 z)) (pos k))
quot_fits z k f = rw (to_z-of_z f) (record { sfits = omega (arith, mag_quot z k, f.sfits) })

neg_zero : (r : ℕ) → r ≤ 2147483648 → eqb (of_z w32 (neg_ℤ (pos r))) 0 ≡ eqb r 0
neg_zero zero h = refl
neg_zero (suc r) h = ne_eqb (4294967296 - suc r) 0 (λ e. omega arith) ∙ sym (ne_eqb (suc r) 0 (λ e. omega arith))

rem_at : (z : ℤ) (k : ℕ) → mag z < 2147483648 → eqb (of_z w32 (rem_z z (pos k))) 0 ≡ eqb (nat_abs z % k) 0
rem_at (pos a) k h = refl
rem_at (negsuc a) k h = neg_zero (suc a % k) (omega (arith, mod-le (suc a) k))

-- whether it divides is a matter of the size
pub rem_zero : (z : ℤ) (k : ℕ) → SFits w32 z → eqb (of_z w32 (rem_z (to_z w32 (of_z w32 z)) (pos k))) 0 ≡ eqb (nat_abs z % k) 0
rem_zero z k f = rw (to_z-of_z f) (rem_at z k f.sfits)

-- ---- tests and casts of an i32: the machine reads the number back from its bits
pub lt_left : {w : Width} (z b : ℤ) (t : Bool) → SFits w z → lt_z (to_z w (of_z w z)) b ≡ t → lt_z z b ≡ t
lt_left z b t f e = ap (λ (x : ℤ). lt_z x b) (sym (to_z-of_z f)) ∙ e

pub lt_right : {w : Width} (a z : ℤ) (t : Bool) → SFits w z → lt_z a (to_z w (of_z w z)) ≡ t → lt_z a z ≡ t
lt_right a z t f e = ap (λ (x : ℤ). lt_z a x) (sym (to_z-of_z f)) ∙ e

-- a number that is not below 1 is positive
pub at_least_one : (z : ℤ) → lt_z z (pos 1) ≡ false → (z ≡ pos (nat_abs z)) × (1 ≤ nat_abs z)
at_least_one (pos n) e = (refl, ltb-false n 1 e)
at_least_one (negsuc n) e = absurd (true≢false e)

-- the cast to u32
pub to-unsigned : (z : ℤ) → SFits w32 z → lt_z z (pos 1) ≡ false → T (non_neg (to_z w32 (of_z w32 z))) × Fits w32 (nat_abs (to_z w32 (of_z w32 z)))
to-unsigned z f e = rw (to_z-of_z f) (go z f e)
  where
    go : (x : ℤ) → SFits w32 x → lt_z x (pos 1) ≡ false → T (non_neg x) × Fits w32 (nat_abs x)
    go (pos n) g h = (tt, record { fits = omega (arith, g.sfits) })
    go (negsuc n) g h = absurd (true≢false h)

pub read_back : (z : ℤ) → SFits w32 z → nat_abs (to_z w32 (of_z w32 z)) ≡ nat_abs z
read_back z f = ap nat_abs (to_z-of_z f)

-- a call is handed its three numbers so
pub read-date : {A : Type 0} (f : ℤ → ℤ → ℤ → A) (y m d : ℤ) → SFits w32 y → SFits w32 m → SFits w32 d
    → f (to_z w32 (of_z w32 y)) (to_z w32 (of_z w32 m)) (to_z w32 (of_z w32 d)) ≡ f y m d
read-date f y m d p q r = λ i. f (to_z-of_z p i) (to_z-of_z q i) (to_z-of_z r i)

-- ---- a signed number that is at least -(p + 1), raised by k: a natural number
pub record Raised (z : ℤ) (p k h : ℕ) : Type 0 where
  pub r : ℕ
  pub is : z +ℤ pos k ≡ pos r
  pub low : k - suc p ≤ r
  pub high : r ≤ h + k

pub sub_at : (a b : ℕ) → b ≤ a → sub_ℕ a b ≡ pos (a - b)
sub_at a b h = go (ltb a b) refl
  where
    go : (t : Bool) → ltb a b ≡ t → cond t (negsuc (b - suc a)) (pos (a - b)) ≡ pos (a - b)
    go true e = absurd (omega (arith, ltb-true a b e))
    go false e = refl

pub raised : (z : ℤ) (p k h : ℕ) → suc p ≤ k → lt_z z (negsuc p) ≡ false → lt_z (pos h) z ≡ false → Raised z p k h
raised (pos n) p k h l q u = record { r = n + k; is = refl; low = omega arith; high = omega (arith, ltb-false h n u) }
raised (negsuc n) p k h l q u =
    record { r = k - suc n; is = sub_at k (suc n) (omega (arith, ltb-false p n q)); low = omega (arith, ltb-false p n q); high = omega arith }

-- a number is at most its size
pub own-size : (z : ℤ) → lt_z (pos (nat_abs z)) z ≡ false
own-size (pos n) = le-ltb n n (le_refl n)
own-size (negsuc n) = refl

-- an i32 is at most 2147483647
pub at_most_i32 : (z : ℤ) → SFits w32 z → lt_z (pos 2147483647) z ≡ false
at_most_i32 (pos n) f = le-ltb 2147483647 n (omega (arith, f.sfits))
at_most_i32 (negsuc n) f = refl

-- the machine's sum, where it comes to r
pub sum_fits : (x z : ℤ) (k r : ℕ) → x ≡ z → z +ℤ pos k ≡ pos r → r < 2 ^ 63 → SFits w64 (x +ℤ pos k)
sum_fits x z k r e f h = subst (λ (y : ℤ). SFits w64 y) (sym (ap (λ (y : ℤ). y +ℤ pos k) e ∙ f)) (record { sfits = h })

pub sum_is : (x z : ℤ) (k r : ℕ) → x ≡ z → z +ℤ pos k ≡ pos r → r < 2 ^ 63 → to_z w64 (of_z w64 (x +ℤ pos k)) ≡ pos r
sum_is x z k r e f h = to_z-of_z (sum_fits x z k r e f h) ∙ ap (λ (y : ℤ). y +ℤ pos k) e ∙ f

pub cast_fits : {w : Width} (q : ℤ) (r : ℕ) → q ≡ pos r → Fits w r → T (non_neg q) × Fits w (nat_abs q)
cast_fits {w} q r e f = subst (λ (y : ℤ). T (non_neg y) × Fits w (nat_abs y)) (sym e) (tt, f)

-- ---- a natural number, lowered by k
pub lowered : (n k b : ℕ) → n < b → k < b → mag (sub_ℕ n k) < b
lowered n k b h l = go (ltb n k) refl
  where
    go : (t : Bool) → ltb n k ≡ t → mag (cond t (negsuc (k - suc n)) (pos (n - k))) < b
    go true e = omega arith
    go false e = omega arith

-- both numbers moved by k
pub sub_shift : (a b k : ℕ) → sub_ℕ (a + k) (b + k) ≡ sub_ℕ a b
sub_shift a b k = go (ltb a b) refl
  where
    go : (t : Bool) → ltb a b ≡ t → cond (ltb (a + k) (b + k)) (negsuc (b + k - suc (a + k))) (pos (a + k - (b + k))) ≡ cond t (negsuc (b - suc a))
        (pos (a - b))
    go true e = rw (lt-ltb (a + k) (b + k) (omega (arith, ltb-true a b e))) (ap negsuc (omega arith))
    go false e = rw (le-ltb (a + k) (b + k) (omega (arith, ltb-false a b e))) (ap pos (omega arith))
