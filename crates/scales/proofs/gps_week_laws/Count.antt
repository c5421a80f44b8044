-- The milliseconds of a fraction of a day: from 0 to 86,400,000, and within 1/2 + 2^-27 of the exact ones. Assumes nothing.
use Rattle.std.proofs.Common.{◌≡◌, ℕ, suc, ◌+◌, ◌*◌, ◌^◌, ◌<◌, ◌≤◌, ℤ, pos, negsuc, refl, mul-le-mul_right, lt_of_mul-lt-mul_right, arith, lit<, lit≤}
use lib.Ieee.{Float, to_signed}
use Rattle.floats.specs.Whole.{to_whole, away}
use Rattle.rounding.specs.Value.{Val, L}
use Rattle.rounding.proofs.Value.{L-pos}
use Rattle.rounding.proofs.Scaled.{Scaled, mul_near}
use Rattle.time_of_day.specs.TimeShown.{from_zero}
use Rattle.time_of_day.proofs.Rounded.{IsWhole, away-nearest, rounded}
use Rattle.scales.specs.gps_weeks.WeekOf.{product_of, day_millis}
use Rattle.scales.proofs.gps_weeks.Parts.{day-millis-val}

-- half a place of a product below 2 ^ 27, in units: L is 2 ^ 26 of them
h : ℕ
h = 2 ^ 1048

L-h : L ≡ 2 ^ 26 * h
unfolding L h
L-h = refl

-- |k - 86400000 F / L| ≤ 1/2 + 2^-27, both sides times 2 ^ 27 L
pub record CountNear (F k : ℕ) : Type 0 where
  pub over : 2 ^ 27 * (k * L) ≤ 2 ^ 27 * (86400000 * F) + 2 ^ 26 * L + L
  pub under : 2 ^ 27 * (86400000 * F) ≤ 2 ^ 27 * (k * L) + 2 ^ 26 * L + L
  pub most : k ≤ 86400000

room : 2 ^ (53 + 1048) ≡ 2 ^ 53 * h
unfolding h
room = refl

h_pos : 0 < h
unfolding h
h_pos = lit< tt

h_le : h ≤ L
h_le = omega (arith, L-h)

small : (F l g t : ℕ) → l ≡ 2 ^ 26 * g → t ≡ 2 ^ 53 * g → F < l → F * 86400000 < 0 * 86400000 + t * 1
small F l g t e r k = omega arith

none : (F t g : ℕ) → t ≡ 2 ^ 53 * g → 0 < g → 0 * 86400000 < F * 86400000 + t * 1
none F t g r k = omega arith

module _ (f : Float) (F : ℕ) (v : Val f F 0 L) (below : F < L) where
  product : Scaled (product_of f) F 0 86400000 1 1048
  unfolding product_of
  product = mul_near 1048 (lit< tt) (lit≤ tt) (small F L h (2 ^ (53 + 1048)) L-h room below) (none F (2 ^ (53 + 1048)) h room h_pos) v day-millis-val

  p-over : 2 * (1 * product.p + 86400000 * 0) ≤ 2 * (1 * product.n + 86400000 * F) + 1 * h
  unfolding h
  p-over = product.over

  p-under : 2 * (1 * product.n + 86400000 * F) ≤ 2 * (1 * product.p + 86400000 * 0) + 1 * h
  unfolding h
  p-under = product.under

  whole : IsWhole (to_signed 63 (to_whole away (product_of f))) product.p product.n
  whole = rounded away away-nearest product.val (omega (arith, high, L-pos)) (omega (arith, low, L-pos))
    where
      high : product.p ≤ product.n + 86400001 * L
      high = omega (arith, h_le, p-over)

      low : product.n ≤ product.p + L
      low = omega (arith, h_le, p-under)

  -- no fraction has a count below 0
  count-pos : (z : ℤ) → IsWhole z product.p product.n → CountNear F (from_zero z)
  unfolding from_zero
  count-pos (pos k) w = record {
    over = over k (k * L) w.over;
    under = under k (k * L) w.under;
    most = at_most k (lt_of_mul-lt-mul_right L (most k (k * L) (86400001 * L) refl w.over));
  }
    where
      over : (k a : ℕ) → 2 * (a + product.n) ≤ 2 * (0 * L + product.p) + L → 2 ^ 27 * a ≤ 2 ^ 27 * (86400000 * F) + 2 ^ 26 * L + L
      over k a o = omega (arith, L-h, p-over)

      under : (k a : ℕ) → 2 * (0 * L + product.p) ≤ 2 * (a + product.n) + L → 2 ^ 27 * (86400000 * F) ≤ 2 ^ 27 * a + 2 ^ 26 * L + L
      under k a o = omega (arith, L-h, p-under)

      most : (k a b : ℕ) → b ≡ 86400001 * L → 2 * (a + product.n) ≤ 2 * (0 * L + product.p) + L → a < b
      most k a b e o = omega (arith, L-h, h_pos, p-over)

      at_most : (k : ℕ) → k < 86400001 → k ≤ 86400000
      at_most k l = omega arith
  count-pos (negsuc k) w = absurd (no (suc k * L) (mul-le-mul_right L (some k)) w.under)
    where
      some : (k : ℕ) → 1 ≤ suc k
      some k = omega arith

      no : (a : ℕ) → 1 * L ≤ a → 2 * (a + product.p) ≤ 2 * (0 * L + product.n) + L → ⊥
      no a g o = omega (arith, L-h, h_pos, p-under)

  pub millis-near : CountNear F (day_millis f)
  unfolding day_millis
  millis-near = count-pos (to_signed 63 (to_whole away (product_of f))) whole
