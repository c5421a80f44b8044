-- What is shown of a pair, of two parts on the grid of 2 ^ -52, where nothing is rounded. Assumes nothing.
use mathlib.Core.Path.{◌≡◌, refl, sym, ap, ◌∙◌, subst}
use mathlib.Core.Bool.{Bool, true, false}
use Prim.Native.Nat.{ℕ, ◌+◌, ◌*◌, ◌^◌, ◌≤◌, ◌<◌}
use native.Mathlib.Nat.{mul-le-mul_right, mul-lt-mul_of_pos_right, add-mul, mul_assoc, le_of_eq, le_trans, lt_of_lt_of_le, lt_of_mul-lt-mul_right}
use native.Mathlib.Omega.{arith}
use lib.Dec.{lit≤, lit<}
use lib.Pow.{pow_pos}
use lib.Ieee.{Float, to_signed}
use lib.Ieee.Exact.{HasValue}
use Rattle.rounding.specs.Value.{L}
use Rattle.rounding.proofs.Value.{val-scale, has-scale}
use Rattle.rounding.proofs.Signed.{plus-of, minus-of}
use Rattle.floats.specs.Whole.{nearest_int}
use Rattle.julian.specs.day_number.DayNumber.{rest, sum_fractions, joined_fractions}
use Rattle.julian.proofs.day_number.Units.{S, C, H, W, E}
use Rattle.julian.proofs.day_number.Split.{Split}
use Rattle.julian.proofs.day_number.SplitOnGrid.{split-grid}
use Rattle.julian.proofs.day_number.NearestInt.{Whole}
use Rattle.julian.proofs.day_number.JulianRange.{SumInRange}
use Rattle.julian.proofs.day_number.Parts.{GridNumbers, left-grid}
use Rattle.julian.proofs.day_number.IntegerSum.{Bounded, bounded, sums}
use Rattle.julian.proofs.day_number.Pair.{AcceptedSum}

-- the exact sum is in the range, to within 1/8
pub record GridRange (P N : ℕ) : Type 0 where
  pub high : P < N + 8000000001 * 2 ^ 49
  pub low : N < P + 548557 * 2 ^ 49

-- what is left of the two parts is 1 at most in size, and their sum is -3/2 at least
record Sizes (P N Q M : ℕ) : Type 0 where
  f1 : N ≤ P + S
  f2 : P ≤ N + S
  g1 : M ≤ Q + S
  g2 : Q ≤ M + S
  fg : 2 * (N + M) ≤ 2 * (P + Q) + 3 * S

sizes : (s t : Bool) (P Q A B : ℕ) → GridNumbers P A → GridNumbers Q B → GridRange (plus-of s P + plus-of t Q) (minus-of s P + minus-of t Q)
    → Sizes (plus-of s P + minus-of s A * S) (minus-of s P + plus-of s A * S) (plus-of t Q + minus-of t B * S) (minus-of t Q + plus-of t B * S)
sizes false false P Q A B a b r =
    let x : 8 * (A * S) ≤ 8 * P + 5 * S = a.tight (omega (arith, r.high)) in
    let y : 8 * (B * S) ≤ 8 * Q + 5 * S = b.tight (omega (arith, r.high)) in
    record { f1 = omega (arith, a.high); f2 = omega (arith, a.low); g1 = omega (arith, b.high); g2 = omega (arith, b.low); fg = omega arith }
sizes true true P Q A B a b r =
    record {
      f1 = omega (arith, a.low);
      f2 = omega (arith, a.high);
      g1 = omega (arith, b.low);
      g2 = omega (arith, b.high);
      fg =
          omega (arith, a.low, b.low);
    }
sizes false true P Q A B a b r =
    record {
      f1 = omega (arith, a.high);
      f2 = omega (arith, a.low);
      g1 = omega (arith, b.low);
      g2 = omega (arith, b.high);
      fg =
          omega (arith, a.high, b.low);
    }
sizes true false P Q A B a b r =
    record {
      f1 = omega (arith, a.low);
      f2 = omega (arith, a.high);
      g1 = omega (arith, b.high);
      g2 = omega (arith, b.low);
      fg =
          omega (arith, a.low, b.high);
    }

-- the same in the smaller units
times_C : (a b : ℕ) → a ≤ b + 0 → a * C ≤ b * C
times_C a b h = mul-le-mul_right C (plain a b h)
  where
    plain : (a b : ℕ) → a ≤ b + 0 → a ≤ b
    plain a b h = omega arith

slack : (a b e : ℕ) → a ≤ b → a ≤ b + e
slack a b e h = omega arith

left-C : (u n i m j up more : ℕ)
    → (u + (n + i * S + (m + j * S) + up * S) + more * S) * C ≡ u * C + (n * C + i * (S * C) + (m * C + j * (S * C)) + up * (S * C)) + more * (S * C)
left-C u n i m j up more = simp (add-mul, mul_assoc)

right-C : (p k q l down : ℕ) → (2 ^ 51 + (p + k * S) + (q + l * S) + down * S) * C ≡ 2 ^ 51 * C + (p * C + k * (S * C)) + (q * C + l * (S * C)) + down * (S * C)
right-C p k q l down = simp (add-mul, mul_assoc)

side_p : (s : Bool) (P : ℕ) → plus-of s P * C ≡ plus-of s (P * C)
side_p false P = refl
side_p true P = refl

side_m : (s : Bool) (P : ℕ) → minus-of s P * C ≡ minus-of s (P * C)
side_m false P = refl
side_m true P = refl

scaled : (s t : Bool) (P Q A B up more down u e : ℕ)
    → u + (minus-of s P + plus-of s A * S + (minus-of t Q + plus-of t B * S) + up * S) + more * S ≤ 2 ^ 51 + (plus-of s P + minus-of s A * S) +
    (plus-of t Q + minus-of t B * S) + down * S + 0
    → 2 ^ 51 + (plus-of s P + minus-of s A * S) + (plus-of t Q + minus-of t B * S) + down * S ≤ u +
    (minus-of s P + plus-of s A * S + (minus-of t Q + plus-of t B * S) + up * S) + more * S + 0
    → (u * C + (minus-of s (P * C) + plus-of s A * L + (minus-of t (Q * C) + plus-of t B * L) + up * L) + more * L ≤ H +
    (plus-of s (P * C) + minus-of s A * L) + (plus-of t (Q * C) + minus-of t B * L) + down * L + e)
    × (H + (plus-of s (P * C) + minus-of s A * L) + (plus-of t (Q * C) + minus-of t B * L) + down * L ≤ u * C +
    (minus-of s (P * C) + plus-of s A * L + (minus-of t (Q * C) + plus-of t B * L) + up * L) + more * L + e)
unfolding L H
scaled s t P Q A B up more down u e h k =
    let x = left-C u (minus-of s P) (plus-of s A) (minus-of t Q) (plus-of t B) up more
    ∙ ap (λ (z : ℕ). u * C + (z + plus-of s A * L + (minus-of t Q * C + plus-of t B * L) + up * L) + more * L) (side_m s P)
    ∙ ap (λ (z : ℕ). u * C + (minus-of s (P * C) + plus-of s A * L + (z + plus-of t B * L) + up * L) + more * L) (side_m t Q) in
    let y = right-C (plus-of s P) (minus-of s A) (plus-of t Q) (minus-of t B) down
    ∙ ap (λ (z : ℕ). H + (z + minus-of s A * L) + (plus-of t Q * C + minus-of t B * L) + down * L) (side_p s P)
    ∙ ap (λ (z : ℕ). H + (plus-of s (P * C) + minus-of s A * L) + (z + minus-of t B * L) + down * L) (side_p t Q) in (
      slack _ _ e (le_trans (le_of_eq (sym x)) (le_trans (times_C _ _ h) (le_of_eq y))),
      slack _ _ e (le_trans (le_of_eq (sym y)) (le_trans (times_C _ _ k) (le_of_eq x))),
    )

module _ (x y : Float) (s t : Bool) (X Y P Q A B : ℕ) (vx : HasValue x s P S) (vy : HasValue y t Q S) (wx : Whole (nearest_int x) s X A)
    (wy : Whole (nearest_int y) t Y B)
    (ex : X ≡ P * C) (ey : Y ≡ Q * C) (a : GridNumbers P A) (b : GridNumbers Q B)
    (r : GridRange (plus-of s P + plus-of t Q) (minus-of s P + minus-of t Q)) where
  pub grid_split : Split S 0 (sum_fractions (rest x) (rest y)) (joined_fractions (rest x) (rest y))
      (2 ^ 51 + (plus-of s P + minus-of s A * S) + (plus-of t Q + minus-of t B * S)) (minus-of s P + plus-of s A * S + (minus-of t Q + plus-of t B * S))
  grid_split =
      let z = sizes s t P Q A B a b r in
      split-grid (rest x) (rest y) (plus-of s P + minus-of s A * S) (minus-of s P + plus-of s A * S) (plus-of t Q + minus-of t B * S)
      (minus-of t Q + plus-of t B * S)
      (left-grid x s X P A vx wx a) (left-grid y t Y Q B vy wy b) z.f1 z.f2 z.g1 z.g2 z.fg

  grid_bounded : Bounded (plus-of s A + plus-of t B + grid_split.up + grid_split.more) (minus-of s A + minus-of t B + grid_split.down)
  grid_bounded =
      let k = grid_split in
      bounded S (2 ^ 51) (2 ^ 49) 0 (plus-of s P) (minus-of s P) (plus-of t Q) (minus-of t Q) (plus-of s A) (minus-of s A) (plus-of t B) (minus-of t B)
      k.up k.more k.down k.units refl refl (lit< tt) (lit≤ tt) k.below k.over k.under r.high r.low

  pub grid : AcceptedSum x y
  unfolding L
  grid =
      let k = grid_split in
      record {
        up = k.up;
        few = k.few;
        carry = k.carry;
        more = k.more;
        one = k.one;
        again = k.again;
        down = k.down;
        least = k.least;
        borrow = k.borrow;
        ints = sums (to_signed 63 (nearest_int x)) (to_signed 63 (nearest_int y)) s t A B k.up k.more k.down wx.plus wx.minus wy.plus
            wy.minus k.few k.one k.least grid_bounded;
        units = k.units * C;
        val = val-scale C k.val;
        below = mul-lt-mul_of_pos_right k.below (pow_pos 1022);
        near = record {
          s = s;
          t = t;
          X = P * C;
          Y = Q * C;
          A = A;
          B = B;
          vx = has-scale x s P S C vx;
          vy = has-scale y t Q S C vy;
          wx = subst (λ (z : ℕ). Whole (nearest_int x) s z A) ex wx;
          wy = subst (λ (z : ℕ). Whole (nearest_int y) t z B) ey wy;
          over = (scaled s t P Q A B k.up k.more k.down k.units (8 * W) k.over k.under).0;
          under = (scaled s t P Q A B k.up k.more k.down k.units (8 * W) k.over k.under).1;
        };
      }

-- ---- the range in the grid's units
wide : (P N : ℕ) → SumInRange (P * C) (N * C) → GridRange P N
unfolding E
wide P N r = record {
  high = lt_of_mul-lt-mul_right C (lt_of_lt_of_le r.high (le_of_eq (sym (add-mul N (8000000001 * 2 ^ 49) C))));
  low = lt_of_mul-lt-mul_right C (lt_of_lt_of_le r.low (le_of_eq (sym (add-mul P (548557 * 2 ^ 49) C))));
}

side_plus : (s t : Bool) (P Q : ℕ) → plus-of s (P * C) + plus-of t (Q * C) ≡ (plus-of s P + plus-of t Q) * C
side_plus false false P Q = sym (add-mul P Q C)
side_plus false true P Q = plain P
  where
    plain : (P : ℕ) → P * C + 0 ≡ (P + 0) * C
    plain P = sym (add-mul P 0 C)
side_plus true false P Q = sym (add-mul 0 Q C)
side_plus true true P Q = refl

side_minus : (s t : Bool) (P Q : ℕ) → minus-of s (P * C) + minus-of t (Q * C) ≡ (minus-of s P + minus-of t Q) * C
side_minus false false P Q = refl
side_minus false true P Q = sym (add-mul 0 Q C)
side_minus true false P Q = sym (add-mul P 0 C)
side_minus true true P Q = sym (add-mul P Q C)

pub grid_range : (s t : Bool) (P Q : ℕ) → SumInRange (plus-of s (P * C) + plus-of t (Q * C)) (minus-of s (P * C) + minus-of t (Q * C))
    → GridRange (plus-of s P + plus-of t Q) (minus-of s P + minus-of t Q)
grid_range s t P Q r = wide (plus-of s P + plus-of t Q) (minus-of s P + minus-of t Q)
    (subst (λ (z : ℕ). SumInRange z ((minus-of s P + minus-of t Q) * C)) (side_plus s t P Q)
    (subst (λ (z : ℕ). SumInRange (plus-of s (P * C) + plus-of t (Q * C)) z) (side_minus s t P Q) r))
