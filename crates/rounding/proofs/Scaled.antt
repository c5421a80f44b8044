-- The absolute error of a product by a constant B / E above zero and of a quotient by a whole number, of a value in units of 2 ^ -1074: at most a half of 2 ^ j
-- units, where the exact result is below 2 ^ (53 + j) units. Assumes nothing.
use mathlib.Core.Path.{◌≡◌, sym, ap, ◌∙◌, subst₂}
use Prim.Native.Nat.{ℕ, ◌+◌, ◌*◌, ◌^◌, ◌≤◌, ◌<◌}
use native.Mathlib.Nat.{le_trans, le_of_eq, lt_of_lt_of_le, mul-pos, mul_comm, mul_assoc, mul-one, mul-zero, add-zero, zero-add, add-mul}
use native.Mathlib.Nat.{le_of_mul-le-mul_right, mul-lt-mul_of_pos_right}
use lib.Dec.{lit<}
use lib.Ieee.{Float, binary64, mul, div}
use Rattle.rounding.specs.Value.{Val, Rounds, L}
use Rattle.rounding.proofs.Value.{mul_rounds, div_rounds, L-pos}
use Rattle.rounding.proofs.Near.{rounds-near}

-- z is (p - n) / L, and differs from (P - N) * B / (L * E) by at most 2 ^ j / 2 units
pub record Scaled (z : Float) (P N B E j : ℕ) : Type 0 where
  pub p : ℕ
  pub n : ℕ
  pub val : Val z p n L
  pub over : 2 * (E * p + B * N) ≤ 2 * (E * n + B * P) + E * 2 ^ j
  pub under : 2 * (E * n + B * P) ≤ 2 * (E * p + B * N) + E * 2 ^ j

cancel : (a b c d e B E : ℕ) → 2 * (a * (L * E) + b * B * L) ≤ 2 * (c * (L * E) + d * B * L) + L * E * e → 2 * (E * a + B * b) ≤ 2 * (E * c + B * d) + E * e
cancel a b c d e B E h = le_of_mul-le-mul_right {k = L} (le_trans (le_of_eq left) (le_trans h (le_of_eq (sym right)))) L-pos
  where
    term : (x y : ℕ) → (E * x + B * y) * L ≡ x * (L * E) + y * B * L
    term x y = add-mul (E * x) (B * y) L ∙ ap (λ (z : ℕ). z + B * y * L) (mul_comm (E * x) L ∙ sym (mul_assoc L E x) ∙ mul_comm (L * E) x)
        ∙ ap (λ (z : ℕ). x * (L * E) + z * L) (mul_comm B y)

    left : 2 * (E * a + B * b) * L ≡ 2 * (a * (L * E) + b * B * L)
    left = mul_assoc 2 (E * a + B * b) L ∙ ap (λ (z : ℕ). 2 * z) (term a b)

    right : (2 * (E * c + B * d) + E * e) * L ≡ 2 * (c * (L * E) + d * B * L) + L * E * e
    right = add-mul (2 * (E * c + B * d)) (E * e) L ∙ ap (λ (z : ℕ). z + E * e * L) (mul_assoc 2 (E * c + B * d) L ∙ ap (λ (z : ℕ). 2 * z) (term c d))
        ∙ ap (λ (z : ℕ). 2 * (c * (L * E) + d * B * L) + z) (mul_comm (E * e) L ∙ sym (mul_assoc L E e))

-- |P - N| * B / E is below 2 ^ (53 + j)
pub scaled_near : (j : ℕ) {z : Float} {P N B E : ℕ} → 0 < E → j ≤ 2044 → P * B < N * B + 2 ^ (53 + j) * E → N * B < P * B + 2 ^ (53 + j) * E
    → Rounds binary64 z (P * B) (N * B) (L * E) → Scaled z P N B E j
scaled_near j {z} {P} {N} {B} {E} F b u l r =
    let k = rounds-near j (mul-pos L-pos F) b (wide (P * B) (N * B) u) (wide (N * B) (P * B) l) r in
    record { p = k.p; n = k.n; val = k.val; over = cancel k.p N k.n P (2 ^ j) B E k.over; under = cancel k.n P k.p N (2 ^ j) B E k.under }
  where
    wide : (x y : ℕ) → x < y + 2 ^ (53 + j) * E → x * L < y * L + 2 ^ (53 + j) * (L * E)
    wide x y h =
        lt_of_lt_of_le (mul-lt-mul_of_pos_right h L-pos)
        (le_of_eq (add-mul y (2 ^ (53 + j) * E) L ∙ ap (λ (z : ℕ). y * L + z) (mul_assoc (2 ^ (53 + j)) E L ∙ ap (λ (z : ℕ). 2 ^ (53 + j) * z) (mul_comm E L))))

-- x * (B / E)
pub mul_near : (j : ℕ) {x y : Float} {P N B E : ℕ} → 0 < E → j ≤ 2044 → P * B < N * B + 2 ^ (53 + j) * E → N * B < P * B + 2 ^ (53 + j) * E → Val x P N L
    → Val y B 0 E → Scaled (mul binary64 x y) P N B E j
mul_near j {x} {y} {P} {N} {B} {E} F b u l v w = scaled_near j F b u l
    (subst₂ (λ (s t : ℕ). Rounds binary64 (mul binary64 x y) s t (L * E)) (ap (λ (z : ℕ). P * B + z) (mul-zero N) ∙ add-zero (P * B))
    (ap (λ (z : ℕ). z + N * B) (mul-zero P) ∙ zero-add (N * B)) (mul_rounds binary64 L-pos F v w))

-- x / c
pub div_near : (j : ℕ) {x y : Float} {P N : ℕ} (c : ℕ) → 0 < c → j ≤ 2044 → P < N + 2 ^ (53 + j) * c → N < P + 2 ^ (53 + j) * c → Val x P N L → Val y c 0 1
    → Scaled (div binary64 x y) P N 1 c j
div_near j {x} {y} {P} {N} c F b u l v w =
    scaled_near j F b (subst₂ (λ (s t : ℕ). s < t + 2 ^ (53 + j) * c) (sym (mul-one P)) (sym (mul-one N)) u)
    (subst₂ (λ (s t : ℕ). s < t + 2 ^ (53 + j) * c) (sym (mul-one N)) (sym (mul-one P)) l)
    (div_rounds binary64 L-pos (lit< tt) F v w)
