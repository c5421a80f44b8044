-- One part x = ±X units: what is left of it beside its whole number ±A is exact, on the grid and off it. Assumes nothing.
use mathlib.Core.Path.{◌≡◌, refl, sym, ap, ◌∙◌, subst}
use mathlib.Core.Bool.{Bool, true, false}
use Prim.Native.Nat.{ℕ, ◌+◌, ◌-◌, ◌*◌, ◌^◌, ◌≤◌, ◌<◌}
use native.Mathlib.Nat.{le_of_eq, le_trans, lt_of_le_of_lt, mul-lt-mul_of_pos_right, one-mul, mul_assoc, add-mul, le_of_mul-le-mul_right, zero-mul}
use native.Mathlib.Omega.{arith}
use lib.Dec.{T, lit≤, lit<}
use lib.Pow.{pow_pos}
use lib.Ieee.{Float, binary64, fits}
use lib.Ieee.Fits.{sub-fits}
use lib.Ieee.Exact.{HasValue}
use Rattle.rounding.specs.Value.{Signed, Val, L}
use Rattle.rounding.proofs.Value.{L-pos, val-scale, sub_rounds, has-unscale}
use Rattle.rounding.proofs.Exact.{sub_exact}
use Rattle.rounding.proofs.Signed.{plus-of, minus-of}
use Rattle.rounding.proofs.Own.{Rep}
use Rattle.rounding.proofs.Sterbenz.{rounds-rep, signed-diff}
use Rattle.rounding.proofs.Optimal.{multiple}
use Rattle.floats.specs.Whole.{nearest_int}
use Rattle.julian.specs.day_number.DayNumber.{rest}
use Rattle.julian.proofs.day_number.Units.{S, C, H, H-L}
use Rattle.julian.proofs.day_number.SignedUnits.{has-val}
use Rattle.julian.proofs.day_number.NearestNumber.{Numbers}
use Rattle.julian.proofs.day_number.NearestInt.{Whole}

pub rest-fits : (x : Float) → T (fits binary64 (rest x))
unfolding rest
rest-fits x = sub-fits binary64 x (nearest_int x)

scale_side : (s : Bool) (A D : ℕ) → (plus-of s A * D ≡ plus-of s (A * D)) × (minus-of s A * D ≡ minus-of s (A * D))
scale_side false A D = (refl, zero-mul D)
scale_side true A D = (zero-mul D, refl)

whole_val : {v : Float} {s : Bool} {X A : ℕ} (D : ℕ) → Whole v s X A → Val v (plus-of s A * D) (minus-of s A * D) D
whole_val {v} {s} {X} {A} D w = subst (λ (z : ℕ). Val v (plus-of s A * D) (minus-of s A * D) z) (one-mul D) (val-scale D w.val)

-- ---- off the grid, below 2 ^ 50
far2 : (2 ^ 51 * L + L < 2 ^ 2098)
unfolding L
far2 = lit< tt

rep_of : (s b : Bool) (c X Y : ℕ) → Signed b c (plus-of s X + minus-of s Y) (minus-of s X + plus-of s Y) → Rep (X - Y) → Rep (Y - X) → Rep c × (c ≤ X + Y)
rep_of false false c X Y h r q = ((signed-diff false c X Y h r q).0, omega arith)
rep_of false true c X Y h r q = ((signed-diff true c X Y h r q).0, omega arith)
rep_of true false c X Y h r q = ((signed-diff true c X Y h r q).0, omega arith)
rep_of true true c X Y h r q = ((signed-diff false c X Y h r q).0, omega arith)

twice-far : (c X Y : ℕ) → c ≤ X + Y → X < 2 ^ 50 * L → Y ≤ X + L → c < 2 ^ 2098
twice-far c X Y h k l = lt_of_le_of_lt (big c X Y h k l) more
  where
    big : (c X Y : ℕ) → c ≤ X + Y → X < 2 ^ 50 * L → Y ≤ X + L → c ≤ 2 ^ 51 * L + L
    big c X Y h k l = omega arith

    more : 2 ^ 51 * L + L < 2 ^ 2098
    more = far2

pub left-off : (x : Float) (s : Bool) (X A : ℕ) → HasValue x s X L → Whole (nearest_int x) s X A → X < 2 ^ 50 * L
    → Val (rest x) (plus-of s X + minus-of s A * L) (minus-of s X + plus-of s A * L) L
unfolding rest
left-off x s X A v w h =
    let r = sub_rounds binary64 L-pos (has-val x s X L v) (whole_val L w) in
    let e = scale_side s A L in
    let q = rep_of s r.sign r.size X (A * L)
    (subst (λ (z : ℕ). Signed r.sign r.size (plus-of s X + z) (minus-of s X + plus-of s (A * L))) e.1
    (subst (λ (z : ℕ). Signed r.sign r.size (plus-of s X + minus-of s A * L) (minus-of s X + z)) e.0 r.is)) (w.numbers.less h)
    (w.numbers.more h) in
    rounds-rep r q.0 (twice-far r.size X (A * L) q.1 h w.numbers.high)

-- what is left is at most 5/8 in size
pub off_size : (s : Bool) (X A : ℕ) → Numbers X A → X < 2 ^ 50 * L → (8 * (minus-of s X + plus-of s A * L) ≤ 8 * (plus-of s X + minus-of s A * L) + 5 * L)
    × (8 * (plus-of s X + minus-of s A * L) ≤ 8 * (minus-of s X + plus-of s A * L) + 5 * L)
off_size false X A w h = (omega (arith, w.tight h, zero-mul L), omega (arith, w.low, H-L, zero-mul L))
off_size true X A w h = (omega (arith, w.low, H-L, zero-mul L), omega (arith, w.tight h, zero-mul L))

-- ---- on the grid of 2 ^ -52, X = Y units of 2 ^ -52
pub record GridNumbers (Y A : ℕ) : Type 0 where
  pub high : A * S ≤ Y + S
  pub low : Y ≤ A * S + 2 ^ 51
  pub tight : Y < 2 ^ 50 * S → 8 * (A * S) ≤ 8 * Y + 5 * S

shrink : (a b : ℕ) → a * C ≤ b * C → a ≤ b
shrink a b h = le_of_mul-le-mul_right {k = C} h (pow_pos 1022)

pub grid_numbers : (Y A : ℕ) → Numbers (Y * C) A → GridNumbers Y A
unfolding L H
grid_numbers Y A w =
    record {
      high = shrink (A * S) (Y + S) (le_trans (le_of_eq (mul_assoc A S C)) (le_trans w.high (le_of_eq (sym (add-mul Y S C)))));
      low = shrink Y (A * S + 2 ^ 51) (le_trans w.low (le_of_eq (sym (add-mul (A * S) (2 ^ 51) C ∙ ap (λ (z : ℕ). z + 2 ^ 51 * C) (mul_assoc A S C)))));
      tight = λ h. shrink (8 * (A * S)) (8 * Y + 5 * S)
          (le_trans (le_of_eq (mul_assoc 8 (A * S) C ∙ ap (λ (z : ℕ). 8 * z) (mul_assoc A S C)))
          (le_trans (w.tight (lift h)) (le_of_eq (sym (add-mul (8 * Y) (5 * S) C ∙ ap (λ (z : ℕ). z + 5 * S * C) (mul_assoc 8 Y C))))));
    }
  where
    lift : Y < 2 ^ 50 * S → Y * C < 2 ^ 50 * 2 ^ 1074
    lift h = mul-lt-mul_of_pos_right h (pow_pos 1022)

pub left-grid : (x : Float) (s : Bool) (X Y A : ℕ) → HasValue x s Y S → Whole (nearest_int x) s X A → GridNumbers Y A
    → Val (rest x) (plus-of s Y + minus-of s A * S) (minus-of s Y + plus-of s A * S) S
unfolding rest
left-grid x false X Y A v w g = sub_exact 52 (lit≤ tt) (omega (arith, g.low)) (omega (arith, g.high)) (has-val x false Y S v) (whole_val S w)
left-grid x true X Y A v w g = sub_exact 52 (lit≤ tt) (omega (arith, g.high)) (omega (arith, g.low)) (has-val x true Y S v) (whole_val S w)

-- from 2 ^ 49 on, every value is on the grid
pub on-grid : (x : Float) (s : Bool) (X : ℕ) → HasValue x s X L → Rep X → 2 ^ 49 * L ≤ X → (Y : ℕ) × (X ≡ Y * C) × HasValue x s Y S
unfolding L
on-grid x s X v r h =
    let m = multiple 1071 X r h in
    let e : X ≡ m.0 * 2 ^ 49 * C = m.1 ∙ sym (mul_assoc m.0 (2 ^ 49) C) in
    (m.0 * 2 ^ 49, e, has-unscale x s (m.0 * 2 ^ 49) S C (pow_pos 1022) (subst (λ (z : ℕ). HasValue x s z (2 ^ 1074)) e v))
