-- A whole number nearest to a float's value, over pairs: `to_signed 63 (to_whole how x)` for an x = (p - n) / L below 2 ^ 52 in size and any rule `how` that
-- gives a nearest one. Assumes nothing.
use mathlib.Core.Path.{◌≡◌, sym, ap, ◌∙◌, subst}
use Prim.Native.Nat.{ℕ, ◌+◌, ◌*◌, ◌%◌, ◌^◌, ◌≤◌, ◌<◌}
use native.Mathlib.Nat.{mul_comm, mul_assoc, mul_left_comm, add-mul, mul-pos, div-add-mod', mod-lt, lt_of_mul-lt-mul_right, add-zero}
use native.Mathlib.Omega.{arith}
use mathlib.Core.Bool.{Bool, true, false}
use lib.IntN.{ℤ}
use lib.Dec.{lit<}
use lib.Ieee.{Float, nan, inf, fin, binary64, up, down, round, to_signed}
use lib.Ieee.Fits.{down_pos}
use lib.Ieee.Exact.{HasValue}
use lib.Ieee.Back.{round_whole}
use lib.Ieee.Nearest.{div_same}
use Rattle.floats.specs.Whole.{nearer, away, to_whole}
use Rattle.time_of_day.specs.Nearest.{Nearest}
use Rattle.rounding.specs.Value.{Signed, Val, L}
use Rattle.rounding.proofs.Value.{L-pos}
use Rattle.rounding.proofs.Signed.{signed_lt}
use Rattle.rounding.proofs.Casts.{plus_z, minus_z, Cut, up_cut, down_cut, trunc_val}

-- z is within 1 / 2 of (p - n) / L
pub record IsWhole (z : ℤ) (p n : ℕ) : Type 0 where
  pub over : 2 * (plus_z z * L + n) ≤ 2 * (minus_z z * L + p) + L
  pub under : 2 * (minus_z z * L + p) ≤ 2 * (plus_z z * L + n) + L

near_div : (g d : ℕ) → 0 < d → (2 * (nearer g d * d) ≤ 2 * g + d) × (2 * g ≤ 2 * (nearer g d * d) + d)
near_div g d h =
    go (nearer g d * (2 * d)) ((2 * g + d) % (2 * d)) (nearer g d * d) (div-add-mod' (2 * g + d) (2 * d)) (mod-lt (2 * g + d) (mul-pos (lit< tt) h))
    (mul_left_comm (nearer g d) 2 d)
  where
    go : (a r k : ℕ) → a + r ≡ 2 * g + d → r < 2 * d → a ≡ 2 * k → (2 * k ≤ 2 * g + d) × (2 * g ≤ 2 * k + d)
    go a r k e l f = omega arith

nearer-same : (n d g c : ℕ) → 0 < d → 0 < c → n * c ≡ g * d → nearer n d ≡ nearer g c
nearer-same n d g c h k e = div_same (2 * n + d) (2 * d) (2 * g + c) (2 * c) (mul-pos (lit< tt) h) (mul-pos (lit< tt) k)
    (left n d c ∙ ap (λ (x : ℕ). 2 * (2 * x + d * c)) e ∙ ap (λ (x : ℕ). 2 * (2 * (g * d) + x)) (mul_comm d c) ∙ sym (left g c d))
  where
    left : (n d c : ℕ) → (2 * n + d) * (2 * c) ≡ 2 * (2 * (n * c) + d * c)
    left n d c = mul_left_comm (2 * n + d) 2 c ∙ ap (λ (x : ℕ). 2 * x) (add-mul (2 * n) d c ∙ ap (λ (x : ℕ). x + d * c) (mul_assoc 2 n c))

pub away-nearest : Nearest away
away-nearest = record { near = λ s g d h. near_div g d h; same = λ s n d g c h k e. nearer-same n d g c h k e }

pub cut-is : (p n : ℕ) (z : ℤ) → Cut p n 1 z → plus_z z + n ≡ minus_z z + p
cut-is p n z (up_cut a b c) = omega arith
cut-is p n z (down_cut a b c) = omega arith

up_side : (a b k g p n l : ℕ) → a * l ≡ b * l + k * l → (2 * (k * l) ≤ 2 * g + l) × (2 * g ≤ 2 * (k * l) + l) → g + n ≡ p
    → (2 * (a * l + n) ≤ 2 * (b * l + p) + l) × (2 * (b * l + p) ≤ 2 * (a * l + n) + l)
up_side a b k g p n l e h i = omega arith

down_side : (a b k g p n l : ℕ) → a * l + k * l ≡ b * l → (2 * (k * l) ≤ 2 * g + l) × (2 * g ≤ 2 * (k * l) + l) → g + p ≡ n
    → (2 * (a * l + n) ≤ 2 * (b * l + p) + l) × (2 * (b * l + p) ≤ 2 * (a * l + n) + l)
down_side a b k g p n l e h i = omega arith

below-63 : (k : ℕ) → k < 4503599627370497 → k < 0 + 9223372036854775808 * 1
below-63 k h = omega arith

above_63 : (k : ℕ) → 0 < k + 9223372036854775808 * 1
above_63 k = omega arith

module _ (how : Bool → ℕ → ℕ → ℕ) (rule : Nearest how) where
  -- at most 2 ^ 52
  pub few : (s : Bool) (g : ℕ) → g < 4503599627370496 * L → how s g L < 4503599627370497
  few s g h = lt_of_mul-lt-mul_right L (go (how s g L * L) L g (rule.near s g L L-pos).0 h)
    where
      go : (k l g : ℕ) → 2 * k ≤ 2 * g + l → g < 4503599627370496 * l → k < 4503599627370497 * l
      go k l g a b = omega arith

  pub whole_has : (g : ℕ) → g < 4503599627370496 * L → (x : Float) (s : Bool) → HasValue x s g L → HasValue (to_whole how x) s (how s g L) 1
  unfolding to_whole
  whole_has g l nan s h = h
  whole_has g l (inf t) s h = h
  whole_has g l (fin t m e) s h =
      subst (λ (b : Bool). HasValue (round binary64 t (how t (m * up e) (down e)) 1) b (how b g L) 1) h.0
      (subst (λ (k : ℕ). HasValue (round binary64 t k 1) t (how t g L) 1) (sym (rule.same t (m * up e) (down e) g L (down_pos e) L-pos h.1))
      (round_whole binary64 t (how t g L) (lt_two (how t g L) (few t g l))))
    where
      lt_two : (k : ℕ) → k < 4503599627370497 → k ≤ 2 ^ 53
      lt_two k h = omega arith

  rounded_has : (x : Float) (s : Bool) (g p n : ℕ) → g < 4503599627370496 * L → HasValue x s g L → Signed s g p n → IsWhole (to_signed 63 (to_whole how x)) p n
  rounded_has x false g p n l h i =
      let k = how false g L in
      let z = to_signed 63 (to_whole how x) in
      let v : Val (to_whole how x) k 0 1 = record { sign = false; size = k; has = whole_has g l x false h; is = add-zero k } in
      let c : plus_z z + 0 ≡ minus_z z + k = cut-is k 0 z (trunc_val 63 (lit< tt) (below-63 k (few false g l)) (above_63 k) v) in
      let e : plus_z z * L ≡ minus_z z * L + k * L = ap (λ (a : ℕ). a * L) (sym (add-zero (plus_z z)) ∙ c) ∙ add-mul (minus_z z) k L in
      let r = up_side (plus_z z) (minus_z z) k g p n L e (rule.near false g L L-pos) i in
      record { over = r.0; under = r.1 }
  rounded_has x true g p n l h i =
      let k = how true g L in
      let z = to_signed 63 (to_whole how x) in
      let v : Val (to_whole how x) 0 k 1 = record { sign = true; size = k; has = whole_has g l x true h; is = add-zero k } in
      let c : plus_z z + k ≡ minus_z z + 0 = cut-is 0 k z (trunc_val 63 (lit< tt) (above_63 k) (below-63 k (few true g l)) v) in
      let e : plus_z z * L + k * L ≡ minus_z z * L = sym (add-mul (plus_z z) k L) ∙ ap (λ (a : ℕ). a * L) (c ∙ add-zero (minus_z z)) in
      let r = down_side (plus_z z) (minus_z z) k g p n L e (rule.near true g L L-pos) i in
      record { over = r.0; under = r.1 }

  pub rounded : {x : Float} {p n : ℕ} → Val x p n L → p < n + 4503599627370496 * L → n < p + 4503599627370496 * L → IsWhole (to_signed 63 (to_whole how x)) p n
  rounded {x} {p} {n} v u l = rounded_has x v.sign v.size p n (signed_lt v.sign v.size p n (4503599627370496 * L) v.is u l) v.has v.is
