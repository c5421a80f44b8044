-- An accepted pair of parts on the grid of 2 ^ -52: the day and the fraction are exact. Assumes nothing.
use mathlib.Core.Path.{◌≡◌, refl, sym, ap, ◌∙◌, subst}
use mathlib.Core.Bool.{Bool, true}
use Prim.Native.Nat.{ℕ, ◌+◌, ◌*◌, ◌^◌, ◌≤◌, ◌<◌}
use native.Mathlib.Nat.{add-mul, le_of_eq, le_trans, mul-le-mul_right}
use native.Mathlib.Omega.{arith}
use lib.Dec.{T}
use lib.IntN.{ℤ}
use lib.Ieee.{Float, binary64, fits, to_signed}
use lib.Ieee.Exact.{HasValue}
use Rattle.rounding.specs.Value.{Signed, Val, L}
use Rattle.rounding.proofs.Value.{val-scale, val-unique, has-scale}
use Rattle.rounding.proofs.Signed.{plus-of, minus-of, signed_le}
use Rattle.rounding.proofs.Casts.{plus_z, minus_z}
use Rattle.floats.specs.Whole.{nearest_int}
use Rattle.julian.specs.day_number.DayNumber.{accepted, rest, sum_fractions, joined_fractions, total, day_number, fraction_passed}
use Rattle.julian.proofs.day_number.Units.{S, C, E}
use Rattle.julian.proofs.day_number.SignedUnits.{has-val}
use Rattle.julian.proofs.day_number.NearestInt.{Whole, whole, plain-plus, plain-minus}
use Rattle.julian.proofs.day_number.Split.{Split}
use Rattle.julian.proofs.day_number.JulianRange.{exact-sum, accepted-lo, accepted-hi, accepts}
use Rattle.julian.proofs.day_number.Parts.{GridNumbers, grid_numbers}
use Rattle.julian.proofs.day_number.PairOnGrid.{grid_range, grid_split}
use Rattle.julian.proofs.day_number.DayInRange.{total-is, number_is}

-- in units of 2 ^ -52: (p - n) + (q - m) + 1/2 is the day and the fraction, which is 0 or more and below 1
pub record Exactly (p n q m : ℕ) (day : ℤ) (fraction : Float) : Type 0 where
  pub units : ℕ
  pub val : Val fraction units 0 (2 ^ 52)
  pub below : units < 2 ^ 52
  pub total : p + q + 2 ^ 51 + minus_z day * 2 ^ 52 ≡ n + m + plus_z day * 2 ^ 52 + units

few_days : (P A : ℕ) → GridNumbers P A → P ≤ 2 ^ 62 * S → A < 2 ^ 63
few_days P A g h = omega (arith, g.high)

module _ (x y : Float) (fx : T (fits binary64 x)) (fy : T (fits binary64 y)) (e : accepted x y ≡ true) (p n q m : ℕ) (vx : Val x p n S) (vy : Val y q m S)
    (h1 : p ≤ n + 2 ^ 62 * S) (h2 : n ≤ p + 2 ^ 62 * S) (h3 : q ≤ m + 2 ^ 62 * S) (h4 : m ≤ q + 2 ^ 62 * S) where
  pub grid_pair : Exactly p n q m (day_number x y) (fraction_passed x y)
  unfolding fraction_passed L
  grid_pair = go vx.sign vy.sign vx.size vy.size vx.has vy.has vx.is vy.is
    where
      go : (s t : Bool) (P Q : ℕ) → HasValue x s P S → HasValue y t Q S → Signed s P p n → Signed t Q q m → Exactly p n q m (day_number x y)
          (fraction_passed x y)
      go s t P Q v w i j =
          let a = whole x s (P * C) fx (has-scale x s P S C v) in
          let b = whole y t (Q * C) fy (has-scale y t Q S C w) in
          let ga = grid_numbers P a.0 a.1.numbers in
          let gb = grid_numbers Q b.0 b.1.numbers in
          let r = grid_range s t P Q (exact-sum x y (plus-of s (P * C)) (minus-of s (P * C)) (plus-of t (Q * C)) (minus-of t (Q * C))
          (has-val x s (P * C) L (has-scale x s P S C v)) (has-val y t (Q * C) L (has-scale y t Q S C w)) (accepted-lo x y e) (accepted-hi x y e)) in
          let sa = few_days P a.0 ga (signed_le s P p n (2 ^ 62 * S) i h1 h2) in
          let sb = few_days Q b.0 gb (signed_le t Q q m (2 ^ 62 * S) j h3 h4) in
          at a.0 b.0 a.1 b.1 sa sb (grid_split x y s t (P * C) (Q * C) P Q a.0 b.0 v w a.1 b.1 refl refl ga gb r)
        where
          fin : (P N Q M i l j o i' l' j' o' up more down units g h : ℕ) → P + n ≡ p + N → Q + m ≡ q + M → i' ≡ i → l' ≡ l → j' ≡ j → o' ≡ o
              → g + (l' + o' + 0 + (0 + down)) ≡ h + (i' + j' + up + (more + 0))
              → units + (N + i * S + (M + j * S) + up * S) + more * S ≤ 2 ^ 51 + (P + l * S) + (Q + o * S) + down * S + 0
              → 2 ^ 51 + (P + l * S) + (Q + o * S) + down * S ≤ units + (N + i * S + (M + j * S) + up * S) + more * S + 0
              → p + q + 2 ^ 51 + h * S ≡ n + m + g * S + units
          fin P N Q M i l j o i' l' j' o' up more down units g h e1 e2 e3 e4 e5 e6 e7 u v = omega arith

          at : (A B : ℕ) → Whole (nearest_int x) s (P * C) A → Whole (nearest_int y) t (Q * C) B → A < 2 ^ 63 → B < 2 ^ 63
              → Split S 0 (sum_fractions (rest x) (rest y)) (joined_fractions (rest x) (rest y))
              (2 ^ 51 + (plus-of s P + minus-of s A * S) + (plus-of t Q + minus-of t B * S))
              (minus-of s P + plus-of s A * S + (minus-of t Q + plus-of t B * S))
              → Exactly p n q m (day_number x y) (joined_fractions (rest x) (rest y)).fraction
          at A B wx wy sa sb k =
              record {
                units = k.units;
                val = k.val;
                below = k.below;
                total = subst (λ (z : ℤ). p + q + 2 ^ 51 + minus_z z * S ≡ n + m + plus_z z * S + k.units)
                    (sym (number_is x y k.up k.more k.down k.carry k.again k.borrow))
                    (fin (plus-of s P) (minus-of s P) (plus-of t Q) (minus-of t Q) (plus-of s A) (minus-of s A) (plus-of t B) (minus-of t B)
                    (plus_z (to_signed 63 (nearest_int x))) (minus_z (to_signed 63 (nearest_int x))) (plus_z (to_signed 63 (nearest_int y)))
                    (minus_z (to_signed 63 (nearest_int y)))
                    k.up k.more k.down k.units (plus_z (total (nearest_int x) (nearest_int y) k.up k.more k.down))
                    (minus_z (total (nearest_int x) (nearest_int y) k.up k.more k.down))
                    (val-unique (has-val x s P S v) vx) (val-unique (has-val y t Q S w) vy) (plain-plus s A _ sa wx.plus)
                    (plain-minus s A _ sa wx.minus) (plain-plus t B _ sb wy.plus) (plain-minus t B _ sb wy.minus)
                    (total-is (nearest_int x) (nearest_int y) k.up k.more k.down).is k.over k.under);
              }

-- two parts whose exact sum is from -68569.5 to 1e9 pass the range test
module _ (x y : Float) (p n q m : ℕ) (vx : Val x p n S) (vy : Val y q m S) (lo : 2 * (n + m) ≤ 2 * (p + q) + 137139 * S)
    (hi : p + q ≤ n + m + 1000000000 * S) where
  pub grid_accepted : accepted x y ≡ true
  unfolding E L
  grid_accepted = accepts x y (p * C) (n * C) (q * C) (m * C) (val-scale C vx) (val-scale C vy)
      (le_trans (le_of_eq (sym (add-mul p q C)))
      (le_trans (mul-le-mul_right C hi) (le_of_eq (add-mul (n + m) (1000000000 * S) C ∙ ap (λ (z : ℕ). z + 1000000000 * S * C) (add-mul n m C)))))
      (le_trans (le_of_eq (sym (add-mul n m C)))
      (le_trans (mul-le-mul_right C (half lo)) (le_of_eq (add-mul (p + q) (137139 * 2 ^ 51) C ∙ ap (λ (z : ℕ). z + 137139 * 2 ^ 51 * C) (add-mul p q C)))))
    where
      half : 2 * (n + m) ≤ 2 * (p + q) + 137139 * S → n + m ≤ p + q + 137139 * 2 ^ 51
      half h = omega arith
