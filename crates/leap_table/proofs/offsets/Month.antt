-- The number of a month, from a signed year.
-- Assumes nothing.
use Rattle.std.proofs.Common.{◌≡◌, ℕ, ◌<◌, ◌≤◌, true, false, T, ℤ, pos, negsuc, nat_abs, sym, refl, ap, ◌∙◌, subst, true≢false, arith, to_z-of_z, w32, w64}
use Rattle.std.proofs.Common.{Fits, SFits, to_z, of_z, ltb-true}
use lib.Signed.{lt_z, non_neg}
use Rattle.leap_table.specs.rows.Table.{month_number, month_of}

small : (z : ℤ) → SFits w32 z → nat_abs z ≤ 2147483648
small (pos n) f = omega (arith, f.sfits)
small (negsuc n) f = omega (arith, f.sfits)

pub year-small : (z : ℤ) → SFits w32 z → nat_abs (to_z w32 (of_z w32 z)) ≤ 2147483648
year-small z f = rw (to_z-of_z f) (small z f)

before-zero : (z : ℤ) (m : ℕ) → lt_z z (pos 0) ≡ true → 0 ≡ month_number z m
unfolding month_number
before-zero (pos n) m e = absurd (omega (arith, ltb-true n 0 e))
before-zero (negsuc n) m e = refl

since-zero : (z : ℤ) (m : ℕ) → lt_z z (pos 0) ≡ false → T (non_neg z) × (month_of (nat_abs z) m ≡ month_number z m)
unfolding month_number
since-zero (pos n) m e = (tt, refl)
since-zero (negsuc n) m e = absurd (true≢false e)

module _ (z : ℤ) (m : ℕ) (f : SFits w32 z) where
  pub negative : lt_z (to_z w32 (of_z w32 z)) (pos 0) ≡ true → 0 ≡ month_number z m
  negative e = before-zero z m (ap (λ (x : ℤ). lt_z x (pos 0)) (sym (to_z-of_z f)) ∙ e)

  since : lt_z (to_z w32 (of_z w32 z)) (pos 0) ≡ false → T (non_neg z) × (month_of (nat_abs z) m ≡ month_number z m)
  since e = since-zero z m (ap (λ (x : ℤ). lt_z x (pos 0)) (sym (to_z-of_z f)) ∙ e)

  pub natural : lt_z (to_z w32 (of_z w32 z)) (pos 0) ≡ false → T (non_neg (to_z w32 (of_z w32 z))) × Fits w64 (nat_abs (to_z w32 (of_z w32 z)))
  natural e = (subst (λ (x : ℤ). T (non_neg x)) (sym (to_z-of_z f)) (since e).0, record { fits = omega (arith, year-small z f) })

  pub counted : lt_z (to_z w32 (of_z w32 z)) (pos 0) ≡ false → month_of (nat_abs (to_z w32 (of_z w32 z))) m ≡ month_number z m
  counted e = ap (λ (x : ℤ). month_of (nat_abs x) m) (to_z-of_z f) ∙ (since e).1

-- a month as a call of `month_number` is handed it
pub read-month : (y m : ℤ) → SFits w32 y → SFits w32 m → month_number (to_z w32 (of_z w32 y)) (nat_abs (to_z w32 (of_z w32 m))) ≡ month_number y (nat_abs m)
read-month y m f g = λ i. month_number (to_z-of_z f i) (nat_abs (to_z-of_z g i))

-- a date's month has a number far below that of a u64
pub number-small : (y : ℤ) (m : ℕ) → SFits w32 y → m ≤ 12 → month_number y m < 1099511627776
unfolding month_number
number-small (pos y) m f h = omega (arith, f.sfits)
number-small (negsuc y) m f h = omega arith
