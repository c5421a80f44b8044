-- The days from jd1 to the midnight of the day are exact, where jd1 is a whole number of half days. Assumes nothing.
use mathlib.Core.Path.{◌≡◌, sym, ap, ◌∙◌, subst}
use Prim.Native.Nat.{ℕ, ◌+◌, ◌-◌, ◌*◌, ◌≤◌}
use native.Mathlib.Nat.{le_trans, le_of_eq, mul_assoc, add-mul, one-mul, le_of_mul-le-mul_right}
use native.Mathlib.Omega.{arith}
use lib.Dec.{lit≤}
use lib.IntN.{ℤ, pos, ◌-ℤ◌}
use lib.Ieee.{Float, binary64, add, sub, of_int}
use Rattle.constants.specs.Constants.{mjd_zero_point}
use Rattle.rounding.specs.Value.{Val, L, plus_z, minus_z}
use Rattle.rounding.proofs.Value.{val-move, val-scale, val-unscale}
use Rattle.rounding.proofs.Casts.{of_int_val, sub_pair, sub_le}
use Rattle.rounding.proofs.Exact.{add_exact, sub_exact}
use Rattle.julian.proofs.Midnights.{zero_point_val}
use Rattle.utc_scales.specs.round_trip.UtcDays.{H}
use Rattle.utc_scales.proofs.round_trip.Parts.{HalvesUp}
use Rattle.utc_scales.proofs.round_trip.Units.{L-H, H-pos}

-- z is n - 1/2 - A / L days
pub record Since (z : Float) (n A : ℕ) : Type 0 where
  pub x : ℕ
  pub val : Val z x A L
  pub is : x + H ≡ n * L

module _ {a : Float} {A : ℕ} (f : HalvesUp a A) where
  pub k_high : f.k ≤ 10000001
  k_high = le_of_mul-le-mul_right {k = H} (le_trans (le_of_eq (sym f.halves)) f.high) H-pos

  pub halves-val : Val a f.k 0 2
  halves-val = val-unscale f.k 2 H H-pos (subst (λ (d : ℕ). Val a (f.k * H) 0 d) L-H (subst (λ (z : ℕ). Val a z 0 L) f.halves f.val))

  module _ (n : ℕ) (l : 2441318 ≤ n) (k : n ≤ 5000002) where
    abbrev z : ℤ
    z = pos n -ℤ pos 2400001

    z_is : plus_z z + 2400001 ≡ minus_z z + n
    z_is = omega (arith, sub_pair (pos n) (pos 2400001))

    z_val : Val (of_int binary64 z) (plus_z z * 2) (minus_z z * 2) 2
    z_val = let s = sub_le (pos n) (pos 2400001) in val-scale 2 (of_int_val z (omega (arith, s.0)) (omega (arith, s.1)))

    halves-since : Val (add binary64 (sub binary64 mjd_zero_point a) (of_int binary64 z)) (2 * n - 1) f.k 2
    halves-since =
        let s = sub_le (pos n) (pos 2400001) in
        let c = k_high in
        let first = sub_exact 1 {p = 4800001} {n = 0} {q = f.k} {m = 0} (lit≤ tt) (omega arith) (omega arith) zero_point_val halves-val in
        let both = add_exact 1 {q = plus_z z * 2} {m = minus_z z * 2} (lit≤ tt) (omega (arith, s.0)) (omega (arith, s.1)) first z_val in
        val-move both (omega (arith, z_is))

    total : (n : ℕ) → 1 ≤ n → (2 * n - 1) * H + H ≡ n * L
    total n g =
        ap (λ (x : ℕ). (2 * n - 1) * H + x) (sym (one-mul H)) ∙ sym (add-mul (2 * n - 1) 1 H) ∙ ap (λ (x : ℕ). x * H) (back n g) ∙ mul_assoc n 2 H
        ∙ ap (λ (x : ℕ). n * x) (sym L-H)
      where
        back : (n : ℕ) → 1 ≤ n → 2 * n - 1 + 1 ≡ n * 2
        back n g = omega arith

    pub since-midnight : Since (add binary64 (sub binary64 mjd_zero_point a) (of_int binary64 (pos n -ℤ pos 2400001))) n A
    since-midnight = record {
      x = (2 * n - 1) * H;
      val =
          subst (λ (y : ℕ). Val (add binary64 (sub binary64 mjd_zero_point a) (of_int binary64 z)) ((2 * n - 1) * H) y L) (sym f.halves)
          (subst (λ (d : ℕ). Val (add binary64 (sub binary64 mjd_zero_point a) (of_int binary64 z)) ((2 * n - 1) * H) (f.k * H) d) (sym L-H)
          (val-scale H halves-since));
      is = total n (omega arith);
    }
