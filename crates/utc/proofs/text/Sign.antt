-- The sign and the size of a signed number of 32 bits, as the code finds them. Assumes nothing.
use Prim.Native.Nat.{ℕ, ◌<◌, zero-le}
use native.Mathlib.Omega.{arith}
use mathlib.Core.Path.{◌≡◌, refl, sym, ap, subst, ◌∙◌}
use mathlib.Core.Bool.{true, false, not}
use lib.IntN.{ℤ, pos, negsuc, nat_abs, ◌-ℤ◌}
use lib.Dec.{T}
use lib.Signed.{lt_z, non_neg}
use mir.Syntax.{w32, w64}
use mir.Val.{Fits, SFits, to_z, of_z}
use mir.Facts.{sfits_widen, to_z-of_z}
use borrow.Author.Tests.{ltb-true, le-ltb}

-- the facts of a number itself
less-fits : (z : ℤ) → SFits w32 z → lt_z z (pos 0) ≡ true → SFits w64 (pos 0 -ℤ z)
less-fits (pos n) f t = elim (let h : n < 0 = ltb-true n 0 t in let no : ⊥ = omega arith in no) [ ]
less-fits (negsuc k) f t = record { sfits = omega (arith, f.sfits) }

less-size : (z : ℤ) → SFits w32 z → lt_z z (pos 0) ≡ true → nat_abs (pos 0 -ℤ z) ≡ nat_abs z
less-size (pos n) f t = elim (let h : n < 0 = ltb-true n 0 t in let no : ⊥ = omega arith in no) [ ]
less-size (negsuc k) f t = omega arith

less-cast : (z : ℤ) → SFits w32 z → lt_z z (pos 0) ≡ true → T (non_neg (pos 0 -ℤ z)) × Fits w32 (nat_abs (pos 0 -ℤ z))
less-cast (pos n) f t = elim (let h : n < 0 = ltb-true n 0 t in let no : ⊥ = omega arith in no) [ ]
less-cast (negsuc k) f t = (tt, record { fits = omega (arith, f.sfits) })

more-cast : (z : ℤ) → SFits w32 z → lt_z z (pos 0) ≡ false → T (non_neg z) × Fits w32 (nat_abs z)
more-cast (pos n) f t = (tt, record { fits = omega (arith, f.sfits) })
more-cast (negsuc k) f t = let z : ◌≡◌ {A = ℕ} 0 1 = cc in elim (let no : ⊥ = omega arith in no) [ ]

below-zero : (z : ℤ) → lt_z z (pos 0) ≡ not (non_neg z)
below-zero (pos n) = le-ltb n 0 zero-le
below-zero (negsuc k) = refl

-- as the code has them: a signed local is its bits, read back
module _ (z : ℤ) (f : SFits w32 z) where
  back : to_z w32 (of_z w32 z) ≡ z
  back = to_z-of_z f

  pub is_negative : lt_z (to_z w32 (of_z w32 z)) (pos 0) ≡ not (non_neg z)
  is_negative = subst (λ (x : ℤ). lt_z x (pos 0) ≡ not (non_neg z)) (sym back) (below-zero z)

  pub wider : SFits w64 (to_z w32 (of_z w32 z))
  wider = subst (SFits w64) (sym back) (sfits_widen tt f)

  back64 : to_z w64 (of_z w64 (to_z w32 (of_z w32 z))) ≡ z
  back64 = to_z-of_z {w = w64} wider ∙ back

  module _ (t : lt_z (to_z w32 (of_z w32 z)) (pos 0) ≡ true) where
    t' : lt_z z (pos 0) ≡ true
    t' = subst (λ (x : ℤ). lt_z x (pos 0) ≡ true) back t

    pub sub_fits : SFits w64 (pos 0 -ℤ to_z w64 (of_z w64 (to_z w32 (of_z w32 z))))
    sub_fits = subst (λ (x : ℤ). SFits w64 (pos 0 -ℤ x)) (sym back64) (less-fits z f t')

    back0 : to_z w64 (of_z w64 (pos 0 -ℤ to_z w64 (of_z w64 (to_z w32 (of_z w32 z))))) ≡ pos 0 -ℤ z
    back0 = to_z-of_z {w = w64} sub_fits ∙ ap (λ (x : ℤ). pos 0 -ℤ x) back64

    pub cast_less : T (non_neg (to_z w64 (of_z w64 (pos 0 -ℤ to_z w64 (of_z w64 (to_z w32 (of_z w32 z)))))))
        × Fits w32 (nat_abs (to_z w64 (of_z w64 (pos 0 -ℤ to_z w64 (of_z w64 (to_z w32 (of_z w32 z)))))))
    cast_less = subst (λ (x : ℤ). T (non_neg x) × Fits w32 (nat_abs x)) (sym back0) (less-cast z f t')

    pub size_less : nat_abs (to_z w64 (of_z w64 (pos 0 -ℤ to_z w64 (of_z w64 (to_z w32 (of_z w32 z)))))) ≡ nat_abs z
    size_less = ap nat_abs back0 ∙ less-size z f t'

  pub cast_more : lt_z (to_z w32 (of_z w32 z)) (pos 0) ≡ false → T (non_neg (to_z w32 (of_z w32 z))) × Fits w32 (nat_abs (to_z w32 (of_z w32 z)))
  cast_more t = subst (λ (x : ℤ). T (non_neg x) × Fits w32 (nat_abs x)) (sym back) (more-cast z f (subst (λ (x : ℤ). lt_z x (pos 0) ≡ false) back t))
