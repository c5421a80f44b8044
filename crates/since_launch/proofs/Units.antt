-- The units of a fraction of a day are its exact value times 2 ^ 52, cut down: the product with 2 ^ 52 is exact. Assumes nothing.
use mathlib.Core.Path.{◌≡◌, sym, ap, ◌∙◌, subst}
use Prim.Native.Nat.{ℕ, ◌+◌, ◌*◌, ◌^◌, ◌≤◌, ◌<◌}
use native.Mathlib.Nat.{lt_of_lt_of_le, mul_assoc, mul-one, zero-mul, lt_of_mul-lt-mul_right}
use native.Mathlib.Omega.{arith}
use lib.Dec.{T, lit<, lit≤}
use lib.IntN.{ℤ}
use lib.Pow.{pow-add}
use lib.Ieee.{Float, binary64, mul, to_signed, fits}
use Rattle.rounding.specs.Value.{Val, Rounds, L, InUnit, plus_z}
use Rattle.rounding.proofs.Value.{L-pos, mul_rounds, rounds-move}
use Rattle.rounding.proofs.Own.{Rep, val-rep}
use Rattle.rounding.proofs.Signed.{dist_zero}
use Rattle.rounding.proofs.Sterbenz.{rounds-rep}
use Rattle.rounding.proofs.Casts.{Cut, up_cut, down_cut, trunc_val}
use Rattle.time_of_day.specs.HalfEven.{two52_f, grid_units}
use Rattle.time_of_day.proofs.EvenFloat.{from-plus}
use Rattle.time_of_day.proofs.EvenExact.{two52_val}
use Rattle.time_of_day.proofs.Fractions.{in_units, size_is}

rep_times : (g k : ℕ) → Rep g → Rep (g * 2 ^ k)
rep_times g k r = record {
  q = r.q;
  j = r.j + k;
  is = ap (λ (z : ℕ). z * 2 ^ k) r.is ∙ mul_assoc r.q (2 ^ r.j) (2 ^ k) ∙ ap (λ (z : ℕ). r.q * z) (sym (pow-add 2 r.j k));
  small = r.small;
}

most : 4503599627370496 * L ≤ 2 ^ 2098
unfolding L
most = lit≤ tt

module _ (f : Float) (F : ℕ) (held : T (fits binary64 f)) (v : Val f F 0 L) (below : F < L) where
  product : Val (mul binary64 f two52_f) (F * 4503599627370496) 0 L
  product =
      rounds-rep r (subst Rep (sym size) (rep_times F 52 (subst Rep (dist_zero F) (val-rep held v))))
      (subst (λ (k : ℕ). k < 2 ^ 2098) (sym size) (lt_of_lt_of_le (few F L below) most))
    where
      plain : (F : ℕ) → F * 4503599627370496 + 0 * 0 + 0 ≡ F * 4503599627370496 + (F * 0 + 0 * 4503599627370496)
      plain F = omega arith

      r : Rounds binary64 (mul binary64 f two52_f) (F * 4503599627370496) 0 L
      r = rounds-move (subst (λ (d : ℕ). Rounds binary64 (mul binary64 f two52_f) (F * 4503599627370496 + 0 * 0) (F * 0 + 0 * 4503599627370496) d) (mul-one L)
          (mul_rounds binary64 L-pos (lit< tt) v two52_val)) (plain F)

      size : r.size ≡ F * 4503599627370496
      size = size_is r.sign r.size (F * 4503599627370496) r.is

      few : (F l : ℕ) → F < l → F * 4503599627370496 < 4503599627370496 * l
      few F l h = omega arith

  cuts : (t : ℤ) → Cut (F * 4503599627370496) 0 L t → (plus_z t * L ≤ F * 4503599627370496) × (F * 4503599627370496 < plus_z t * L + L)
  cuts t (up_cut a b c) = (omega arith, omega arith)
  cuts t (down_cut a b c) = let e : plus_z t * L ≡ 0 = ap (λ (k : ℕ). k * L) a ∙ zero-mul L in (omega arith, omega (arith, L-pos))

  -- k ≤ 2 ^ 52 f < k + 1
  pub units-floor : (grid_units f * L ≤ F * 4503599627370496) × (F * 4503599627370496 < grid_units f * L + L)
  unfolding grid_units
  units-floor =
      subst (λ (k : ℕ). (k * L ≤ F * 4503599627370496) × (F * 4503599627370496 < k * L + L)) (sym (from-plus (to_signed 63 (mul binary64 f two52_f))))
      (cuts (to_signed 63 (mul binary64 f two52_f)) (trunc_val 63 L-pos (wide F L below) (some F L L-pos) product))
    where
      wide : (F l : ℕ) → F < l → F * 4503599627370496 < 0 + 9223372036854775808 * l
      wide F l h = omega arith

      some : (F l : ℕ) → 0 < l → 0 < F * 4503599627370496 + 9223372036854775808 * l
      some F l h = omega arith

  pub units-below : grid_units f < 4503599627370496
  units-below = lt_of_mul-lt-mul_right L (less (grid_units f * L) F L units-floor.0 below)
    where
      less : (a F l : ℕ) → a ≤ F * 4503599627370496 → F < l → a < 4503599627370496 * l
      less a F l h k = omega arith

-- of every fraction from 0 to below 1
pub units-in-day : (f : Float) → T (fits binary64 f) → InUnit f → grid_units f < 4503599627370496
units-in-day f t u = let a = in_units f t u in units-below f a.F t a.val a.most
