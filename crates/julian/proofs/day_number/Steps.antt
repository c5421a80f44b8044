-- What each step of the code computes is what its definition says, branch by branch, on plain values. Assumes nothing.
use mathlib.Core.Path.{◌≡◌, sym, ap, ◌∙◌, subst}
use mathlib.Core.Bool.{Bool, true, false, cond, ◌&&◌}
use Prim.Native.Nat.{◌≤◌}
use native.Mathlib.Omega.{arith}
use lib.Ieee.{Float, binary64, add, sub, le, lt}
use Rattle.floats.specs.Whole.{nought, one}
use Rattle.julian.specs.declared.day_number.Kahan.{Kahan}
use Rattle.julian.specs.declared.day_number.Summed.{Summed}
use Rattle.julian.specs.declared.day_number.Borrowed.{Borrowed}
use Rattle.julian.specs.declared.day_number.Carried.{Carried}
use Rattle.julian.specs.day_number.DayNumber.{c_minus_eps_4, c_minus_eps_2, c_djmin, c_djmax, in_julian_range}
use Rattle.julian.specs.day_number.DayNumber.{add_fraction, carry_day, beside_borrowed, kahan_of, borrow_day, normalize_fraction}

pub pick : {A : Type 0} (b : Bool) (x y : A) → b ≡ true → x ≡ cond b x y
pick b x y e = sym (ap (λ (u : Bool). cond u x y) e)

pub skip : {A : Type 0} (b : Bool) (x y : A) → b ≡ false → y ≡ cond b x y
skip b x y e = sym (ap (λ (u : Bool). cond u x y) e)

-- ---- check_julian_range
pub from-min : (dj : Float) → le c_djmin dj ≡ true → le dj c_djmax ≡ in_julian_range dj
unfolding in_julian_range
from-min dj e = sym (ap (λ (b : Bool). b && le dj c_djmax) e)

pub below-min : (dj : Float) → le c_djmin dj ≡ false → le c_djmin dj ≡ in_julian_range dj
unfolding in_julian_range
below-min dj e = e ∙ sym (ap (λ (b : Bool). b && le dj c_djmax) e)

-- ---- add_fraction
few-of : (b : Bool) (x y : Summed) → x.carry ≤ 1 → y.carry ≤ 1 → (cond {A = Summed} b x y).carry ≤ 1
few-of true x y h k = h
few-of false x y h k = k

pub few-carry : (κ : Kahan) (f : Float) (r : Summed) → r ≡ add_fraction 0 κ f → r.carry ≤ 1
unfolding add_fraction
few-carry κ f r e = subst (λ (z : Summed). z.carry ≤ 1) (sym e) (few-of (le one (add binary64 κ.sum f)) _ _ (omega arith) (omega arith))

-- ---- carry_day
module _ (κ : Kahan) (z : Float) where
  abbrev pub left : Float
  left = add binary64 (sub binary64 κ.sum one) (add binary64 κ.correction (sub binary64 (sub binary64 κ.sum (sub binary64 κ.sum one)) one))

  pub carry_none : lt (sub binary64 z one) c_minus_eps_4 ≡ true → ◌≡◌ {A = Carried} (record { carry = 0; fraction = z }) (carry_day κ z)
  unfolding carry_day
  carry_none e = pick (lt (sub binary64 z one) c_minus_eps_4) _ _ e

  pub carry_over : lt (sub binary64 z one) c_minus_eps_4 ≡ false → lt c_minus_eps_2 left ≡ true → lt nought left ≡ true
      → ◌≡◌ {A = Carried} (record { carry = 1; fraction = left }) (carry_day κ z)
  unfolding carry_day
  carry_over e f g =
      ap (λ (w : Float). record { carry = 1; fraction = w }) (pick (lt nought left) left nought g) ∙ pick (lt c_minus_eps_2 left) _ _ f
      ∙ skip (lt (sub binary64 z one) c_minus_eps_4) _ _ e

  pub carry_zero : lt (sub binary64 z one) c_minus_eps_4 ≡ false → lt c_minus_eps_2 left ≡ true → lt nought left ≡ false
      → ◌≡◌ {A = Carried} (record { carry = 1; fraction = nought }) (carry_day κ z)
  unfolding carry_day
  carry_zero e f g =
      ap (λ (w : Float). record { carry = 1; fraction = w }) (skip (lt nought left) left nought g) ∙ pick (lt c_minus_eps_2 left) _ _ f
      ∙ skip (lt (sub binary64 z one) c_minus_eps_4) _ _ e

  pub carry_under : lt (sub binary64 z one) c_minus_eps_4 ≡ false → lt c_minus_eps_2 left ≡ false
      → ◌≡◌ {A = Carried} (record { carry = 0; fraction = left }) (carry_day κ z)
  unfolding carry_day
  carry_under e f = skip (lt c_minus_eps_2 left) _ _ f ∙ skip (lt (sub binary64 z one) c_minus_eps_4) _ _ e

-- ---- normalize_fraction
module _ (κ : Kahan) where
  abbrev pub fraction : Float
  fraction = add binary64 κ.sum κ.correction

  pub borrowed : lt fraction nought ≡ true → (b : Borrowed) → b ≡ borrow_day (kahan_of κ.sum fraction) → (r : Carried)
      → r ≡ carry_day b.kahan b.fraction → beside_borrowed b.borrow r ≡ normalize_fraction κ
  unfolding normalize_fraction
  borrowed e b eb r er =
      ap (beside_borrowed b.borrow) er ∙ ap (λ (w : Borrowed). beside_borrowed w.borrow (carry_day w.kahan w.fraction)) eb
      ∙ pick (lt fraction nought) _ _ e

  pub unborrowed : lt fraction nought ≡ false → (r : Carried) → r ≡ carry_day (kahan_of κ.sum fraction) fraction → beside_borrowed 0 r ≡ normalize_fraction κ
  unfolding normalize_fraction
  unborrowed e r er = ap (beside_borrowed 0) er ∙ skip (lt fraction nought) _ _ e
