-- A float x near an exact fraction (P - N) / D, with a bound on the error and one on the size of the fraction: the laws that add the errors up through sums,
-- products by a constant and quotients by a whole number. Errors and sizes are counted in units of 2 ^ -90, so that those of a date in days have some 30
-- digits. Assumes nothing.
use mathlib.Core.Path.{◌≡◌, refl, sym, ap, ◌∙◌, subst, subst₂}
use Prim.Native.Nat.{ℕ, ◌+◌, ◌*◌, ◌^◌, ◌≤◌, ◌<◌}
use native.Mathlib.Nat.{le_trans, le_of_eq, lt_of_lt_of_le, mul_comm, mul_assoc, mul_left_comm, mul_right_comm, mul-add, add-mul, mul-le-mul_left}
use native.Mathlib.Nat.{mul-le-mul_right, le_of_mul-le-mul_right, mul-lt-mul_of_pos_right, mul-pos, mul-one, one-mul}
use native.Mathlib.Omega.{arith}
use lib.Pow.{pow-add, pow_pos}
use lib.Ieee.{Float, binary64, add, sub, mul, div, neg}
use Rattle.rounding.specs.Value.{Val, L}
use Rattle.rounding.specs.Picoseconds.{Within}
use Rattle.rounding.proofs.Signed.{product_le}
use Rattle.rounding.proofs.Value.{neg_val, L-pos}
use Rattle.rounding.proofs.Near.{add_near}
use Rattle.rounding.proofs.Scaled.{Scaled, mul_near, div_near}

-- 2 ^ -90, in units of the smallest float. Shut on purpose, as L is
unfoldable pub U : ℕ
U = 2 ^ 984

pub U_pos : 0 < U
unfolding U
U_pos = pow_pos 984

-- 1 is 2 ^ 90 units of 2 ^ -90
pub L-U : L ≡ 2 ^ 90 * U
unfolding L U
L-U = refl

pub unit : (i : ℕ) → 2 ^ (985 + i) ≡ 2 * (2 ^ i * U)
unfolding U
unit i = pow-add 2 985 i ∙ go (2 ^ 984) (2 ^ i) (2 ^ 985) refl
  where
    go : (u t v : ℕ) → v ≡ 2 * u → v * t ≡ 2 * (t * u)
    go u t v h = ap (λ (x : ℕ). x * t) h ∙ mul_assoc 2 u t ∙ ap (λ (x : ℕ). 2 * x) (mul_comm u t)

pub room : (i : ℕ) → 2 ^ (53 + (985 + i)) ≡ 2 ^ (54 + i) * U
unfolding U
room i = ap (λ (x : ℕ). 2 ^ x) (go i) ∙ pow-add 2 (54 + i) 984
  where
    go : (i : ℕ) → 53 + (985 + i) ≡ 54 + i + 984
    go i = omega arith

-- x is within e * 2 ^ -90 of (P - N) / D, which is at most M * 2 ^ -90 in size
pub record About (x : Float) (P N D M e : ℕ) : Type 0 where
  pub p : ℕ
  pub n : ℕ
  pub val : Val x p n L
  pub over : p * D + N * L ≤ n * D + P * L + e * (U * D)
  pub under : n * D + P * L ≤ p * D + N * L + e * (U * D)
  pub high : P * L ≤ N * L + M * (U * D)
  pub low : N * L ≤ P * L + M * (U * D)
  pub some : 0 < D

-- ---- a float is about itself, and about its negative with the sides changed
own-size : (p n M : ℕ) → p ≤ n + M * U → p * L ≤ n * L + M * (U * L)
own-size p n M h = le_trans (mul-le-mul_right L h) (le_of_eq (add-mul n (M * U) L ∙ ap (λ (z : ℕ). n * L + z) (mul_assoc M U L)))

-- a float is about itself: no error, and at most M in size
pub about_own : (M : ℕ) {x : Float} {p n : ℕ} → p ≤ n + M * U → n ≤ p + M * U → Val x p n L → About x p n L M 0
about_own M {x} {p} {n} h k v =
    record { p = p; n = n; val = v; over = omega arith; under = omega arith; high = own-size p n M h; low = own-size n p M k; some = L-pos }

-- -x is about -(P - N) / D
pub about_neg : {x : Float} {P N D M e : ℕ} → About x P N D M e → About (neg x) N P D M e
about_neg a = record { p = a.n; n = a.p; val = neg_val a.val; over = a.under; under = a.over; high = a.low; low = a.high; some = a.some }

-- ---- other numbers for the same fraction
scale_le : (a b P N D e c : ℕ) → a * D + N * L ≤ b * D + P * L + e * (U * D) → a * (D * c) + N * c * L ≤ b * (D * c) + P * c * L + e * (U * (D * c))
scale_le a b P N D e c h =
    let g : (a * D + N * L) * c ≤ (b * D + P * L + e * (U * D)) * c = mul-le-mul_right c h in
    simp (mul_assoc, mul_comm, mul_left_comm) (simp (add-mul, mul_assoc, mul_comm, mul_left_comm) at g)

scale_size : (P N D M c : ℕ) → P * L ≤ N * L + M * (U * D) → P * c * L ≤ N * c * L + M * (U * (D * c))
scale_size P N D M c h =
    let g : P * L * c ≤ (N * L + M * (U * D)) * c = mul-le-mul_right c h in
    simp (mul_assoc, mul_comm, mul_left_comm) (simp (add-mul, mul_assoc, mul_comm, mul_left_comm) at g)

-- (P - N) / D = (P * c - N * c) / (D * c)
pub about_scale : (c : ℕ) {x : Float} {P N D M e : ℕ} → 0 < c → About x P N D M e → About x (P * c) (N * c) (D * c) M e
about_scale c {x} {P} {N} {D} {M} {e} C a = record {
  p = a.p;
  n = a.n;
  val = a.val;
  over = scale_le a.p a.n P N D e c a.over;
  under = scale_le a.n a.p N P D e c a.under;
  high = scale_size P N D M c a.high;
  low = scale_size N P D M c a.low;
  some = mul-pos a.some C;
}

-- ---- the float itself is at most M + e in size
size-le : (a b P N D M e : ℕ) → 0 < D → a * D + N * L ≤ b * D + P * L + e * (U * D) → P * L ≤ N * L + M * (U * D) → a ≤ b + (M + e) * U
size-le a b P N D M e E h k = le_of_mul-le-mul_right {k = D} (le_trans (go (a * D) (b * D) (N * L) (P * L) (e * (U * D)) (M * (U * D)) h k) (le_of_eq last)) E
  where
    go : (x y z w s t : ℕ) → x + z ≤ y + w + s → w ≤ z + t → x ≤ y + (t + s)
    go x y z w s t f g = omega arith

    last : b * D + (M * (U * D) + e * (U * D)) ≡ (b + (M + e) * U) * D
    last = sym (add-mul b ((M + e) * U) D ∙ ap (λ (z : ℕ). b * D + z) (mul_assoc (M + e) U D ∙ add-mul M e (U * D)))

module _ {x : Float} {P N D M e : ℕ} (a : About x P N D M e) where
  pub size-high : a.p ≤ a.n + (M + e) * U
  size-high = size-le a.p a.n P N D M e a.some a.over a.high

  pub size_low : a.n ≤ a.p + (M + e) * U
  size_low = size-le a.n a.p N P D M e a.some a.under a.low

-- ---- a sum
sum-le : (a b a1 b1 a2 b2 P N Q R D e f t : ℕ) → a + (b1 + b2) ≤ b + (a1 + a2) + t * U → a1 * D + N * L ≤ b1 * D + P * L + e * (U * D)
    → a2 * D + R * L ≤ b2 * D + Q * L + f * (U * D)
    → a * D + (N + R) * L ≤ b * D + (P + Q) * L + (e + f + t) * (U * D)
sum-le a b a1 b1 a2 b2 P N Q R D e f t k h l =
    let g : (a + (b1 + b2)) * D ≤ (b + (a1 + a2) + t * U) * D = mul-le-mul_right D k in
    simp add-mul (omega (arith, simp (add-mul, mul_assoc) at g))

half : (x y i w : ℕ) → w ≡ 2 * (2 ^ i * U) → 2 * x ≤ 2 * y + w → x ≤ y + 2 ^ i * U
half x y i w e h = omega arith

sum-size : (P N Q R M M' X : ℕ) → P * L ≤ N * L + M * X → Q * L ≤ R * L + M' * X → (P + Q) * L ≤ (N + R) * L + (M + M') * X
sum-size P N Q R M M' X h k = simp add-mul (omega arith)

fits : (a b c d x y z w : ℕ) → a ≤ b + x → c ≤ d + y → x + y ≡ z → z < w → a + c < b + d + w
fits a b c d x y z w h k e l = omega arith

bound : (M M' e f w : ℕ) → M + M' + (e + f) < w → (M + e + (M' + f)) * U < w * U
bound M M' e f w h = mul-lt-mul_of_pos_right (go M M' e f w h) U_pos
  where
    go : (M M' e f w : ℕ) → M + M' + (e + f) < w → M + e + (M' + f) < w
    go M M' e f w h = omega arith

-- the errors add up, and the sum's own rounding adds 2 ^ i, where the sum is below 2 ^ (54 + i)
pub about_add : (i : ℕ) {x y : Float} {P N Q R D M M' e f : ℕ} → 985 + i ≤ 2044 → M + M' + (e + f) < 2 ^ (54 + i) → About x P N D M e → About y Q R D M' f
    → About (add binary64 x y) (P + Q) (N + R) D (M + M') (e + f + 2 ^ i)
about_add i {x} {y} {P} {N} {Q} {R} {D} {M} {M'} {e} {f} I h a b =
    let w : (M + e + (M' + f)) * U < 2 ^ (53 + (985 + i)) = lt_of_lt_of_le (bound M M' e f (2 ^ (54 + i)) h) (le_of_eq (sym (room i))) in
    let s : (M + e) * U + (M' + f) * U ≡ (M + e + (M' + f)) * U = sym (add-mul (M + e) (M' + f) U) in
    let z = add_near (985 + i) I
    (fits a.p a.n b.p b.n ((M + e) * U) ((M' + f) * U) ((M + e + (M' + f)) * U) (2 ^ (53 + (985 + i))) (size-high a) (size-high b) s w)
    (fits a.n a.p b.n b.p ((M + e) * U) ((M' + f) * U) ((M + e + (M' + f)) * U) (2 ^ (53 + (985 + i))) (size_low a) (size_low b) s w)
    a.val b.val in
    record {
      p = z.p;
      n = z.n;
      val = z.val;
      over = sum-le z.p z.n a.p a.n b.p b.n P N Q R D e f (2 ^ i)
          (half (z.p + (a.n + b.n)) (z.n + (a.p + b.p)) i (2 ^ (985 + i)) (unit i) z.over) a.over b.over;
      under = sum-le z.n z.p a.n a.p b.n b.p N P R Q D e f (2 ^ i)
          (half (z.n + (a.p + b.p)) (z.p + (a.n + b.n)) i (2 ^ (985 + i)) (unit i) z.under) a.under b.under;
      high = sum-size P N Q R M M' (U * D) a.high b.high;
      low = sum-size N P R Q M M' (U * D) a.low b.low;
      some = a.some;
    }

pub about_sub : (i : ℕ) {x y : Float} {P N Q R D M M' e f : ℕ} → 985 + i ≤ 2044 → M + M' + (e + f) < 2 ^ (54 + i) → About x P N D M e → About y Q R D M' f
    → About (sub binary64 x y) (P + R) (N + Q) D (M + M') (e + f + 2 ^ i)
unfolding sub
about_sub i I h a b = about_add i I h a (about_neg b)

-- ---- a product by a float B / E for an exact A / C, and a quotient by a whole number
-- over E: the rounded product, what x was off, and what B / E is off from A / C
module _ (a' b' a b P N D M e A B C E Δ t e' : ℕ) (F : 0 < E)
    (k : E * a' + B * b ≤ E * b' + B * a + E * (t * U)) (h : a * D + N * L ≤ b * D + P * L + e * (U * D)) (hi : P * L ≤ N * L + M * (U * D))
    (lo : N * L ≤ P * L + M * (U * D))
    (d1 : B * C ≤ A * E + Δ) (d2 : A * E ≤ B * C + Δ) (budget : e * (B * C) + Δ * M + t * (E * C) ≤ e' * (E * C)) where
  rounded : E * (a' * (D * C)) + B * C * (b * D) ≤ E * (b' * (D * C)) + B * C * (a * D) + t * (E * C) * (U * D)
  rounded = simp (mul_assoc, mul_comm, mul_left_comm) (simp (add-mul, mul-add, mul_assoc, mul_comm, mul_left_comm) at (mul-le-mul_right (D * C) k))

  moved : B * C * (a * D) + B * C * (N * L) ≤ B * C * (b * D) + B * C * (P * L) + e * (B * C) * (U * D)
  moved = simp (mul_assoc, mul_comm, mul_left_comm) (simp (add-mul, mul-add, mul_assoc, mul_comm, mul_left_comm) at (mul-le-mul_left (B * C) h))

  differ : B * C * (P * L) + A * E * (N * L) ≤ B * C * (N * L) + A * E * (P * L) + Δ * (M * (U * D))
  differ = product_le (B * C) (A * E) (P * L) (N * L) Δ (M * (U * D)) d1 d2 hi lo

  paid : e * (B * C) * (U * D) + Δ * (M * (U * D)) + t * (E * C) * (U * D) ≤ e' * (E * C) * (U * D)
  paid = simp (add-mul, mul_assoc, mul_comm, mul_left_comm) (simp (add-mul, mul_assoc, mul_comm, mul_left_comm) at (mul-le-mul_right (U * D) budget))

  all_in : E * (a' * (D * C)) + A * E * (N * L) ≤ E * (b' * (D * C)) + A * E * (P * L) + e' * (E * C) * (U * D)
  all_in = go (E * (a' * (D * C))) (E * (b' * (D * C))) (B * C * (a * D)) (B * C * (b * D)) (B * C * (P * L)) (B * C * (N * L)) (A * E * (P * L))
      (A * E * (N * L))
      (t * (E * C) * (U * D)) (e * (B * C) * (U * D)) (Δ * (M * (U * D))) (e' * (E * C) * (U * D)) rounded moved differ paid
    where
      go : (x y pa pb pP pN qP qN s1 s2 s3 s : ℕ) → x + pb ≤ y + pa + s1 → pa + pN ≤ pb + pP + s2 → pP + qN ≤ pN + qP + s3 → s2 + s3 + s1 ≤ s
          → x + qN ≤ y + qP + s
      go x y pa pb pP pN qP qN s1 s2 s3 s r1 r2 r3 r4 = omega arith

  scaled_le : a' * (D * C) + N * A * L ≤ b' * (D * C) + P * A * L + e' * (U * (D * C))
  scaled_le = le_of_mul-le-mul_right {k = E} (simp (add-mul, mul_assoc, mul_comm, mul_left_comm) (simp (mul_assoc, mul_comm, mul_left_comm) at all_in)) F

product_size : (P N D M M' A C : ℕ) → M * A ≤ M' * C → P * L ≤ N * L + M * (U * D) → P * A * L ≤ N * A * L + M' * (U * (D * C))
product_size P N D M M' A C m h =
    let g : P * L * A ≤ N * L * A + M * (U * D) * A = le_trans (mul-le-mul_right A h) (le_of_eq (add-mul (N * L) (M * (U * D)) A)) in
    let k : M * A * (U * D) ≤ M' * C * (U * D) = mul-le-mul_right (U * D) m in
    go (P * L * A) (P * A * L) (N * L * A) (N * A * L) (M * (U * D) * A) (M * A * (U * D)) (M' * C * (U * D)) (M' * (U * (D * C))) g k
    (mul_right_comm P A L) (mul_right_comm N A L) (mul_right_comm M (U * D) A) (simp (mul_assoc, mul_comm, mul_left_comm))
  where
    go : (x x' y y' s s' t t' : ℕ) → x ≤ y + s → s' ≤ t → x' ≡ x → y' ≡ y → s ≡ s' → t ≡ t' → x' ≤ y' + t'
    go x x' y y' s s' t t' a b c d e f = omega arith

whole : (i E x y w : ℕ) → w ≡ 2 * (2 ^ i * U) → 2 * x ≤ 2 * y + E * w → x ≤ y + E * (2 ^ i * U)
whole i E x y w q h = go x y (E * w) (E * (2 ^ i * U)) (ap (λ (v : ℕ). E * v) q ∙ mul_left_comm E 2 (2 ^ i * U)) h
  where
    go : (x y s t : ℕ) → s ≡ 2 * t → 2 * x ≤ 2 * y + s → x ≤ y + t
    go x y s t f h = omega arith

module _ (i : ℕ) {x z : Float} {P N D M e : ℕ} (A B C E Δ M' e' : ℕ) (F : 0 < E) (G : 0 < C) (d1 : B * C ≤ A * E + Δ) (d2 : A * E ≤ B * C + Δ)
    (m : M * A ≤ M' * C)
    (budget : e * (B * C) + Δ * M + 2 ^ i * (E * C) ≤ e' * (E * C)) (a : About x P N D M e) where
  about_scaled : Scaled z a.p a.n B E (985 + i) → About z (P * A) (N * A) (D * C) M' e'
  about_scaled s = record {
    p = s.p;
    n = s.n;
    val = s.val;
    over = scaled_le s.p s.n a.p a.n P N D M e A B C E Δ (2 ^ i) e' F
        (whole i E (E * s.p + B * a.n) (E * s.n + B * a.p) (2 ^ (985 + i)) (unit i) s.over) a.over a.high a.low d1 d2 budget;
    under = scaled_le s.n s.p a.n a.p N P D M e A B C E Δ (2 ^ i) e' F
        (whole i E (E * s.n + B * a.p) (E * s.p + B * a.n) (2 ^ (985 + i)) (unit i) s.under) a.under a.low a.high d1 d2 budget;
    high = product_size P N D M M' A C m a.high;
    low = product_size N P D M M' A C m a.low;
    some = mul-pos a.some G;
  }

times_fits : (i a b W B E : ℕ) → a ≤ b + W * U → W * B < 2 ^ (54 + i) * E → a * B < b * B + 2 ^ (53 + (985 + i)) * E
times_fits i a b W B E h k =
    let g : a * B ≤ b * B + W * U * B = le_trans (mul-le-mul_right B h) (le_of_eq (add-mul b (W * U) B)) in
    let l : W * B * U < 2 ^ (54 + i) * E * U = mul-lt-mul_of_pos_right k U_pos in
    go (a * B) (b * B) (W * U * B) (W * B * U) (2 ^ (54 + i) * E * U) (2 ^ (53 + (985 + i)) * E) g (mul_right_comm W U B) l
    (mul_right_comm (2 ^ (54 + i)) E U ∙ ap (λ (v : ℕ). v * E) (sym (room i)))
  where
    go : (x y s s' t t' : ℕ) → x ≤ y + s → s ≡ s' → s' < t → t ≡ t' → x < y + t'
    go x y s s' t t' a b c d = omega arith

-- x * k, for a float k = B / E that stands for the constant A / C, and is off by Δ / (C * E) at most: e' is the budget for all errors together
pub about_mul : (i : ℕ) {x y : Float} {P N D M e : ℕ} (A B C E Δ M' e' : ℕ) → 985 + i ≤ 2044 → 0 < E → 0 < C → B * C ≤ A * E + Δ → A * E ≤ B * C + Δ
    → M * A ≤ M' * C → (M + e) * B < 2 ^ (54 + i) * E
    → e * (B * C) + Δ * M + 2 ^ i * (E * C) ≤ e' * (E * C) → Val y B 0 E → About x P N D M e → About (mul binary64 x y) (P * A) (N * A) (D * C) M' e'
about_mul i {x} {y} {P} {N} {D} {M} {e} A B C E Δ M' e' I F G d1 d2 m r budget v a =
    about_scaled i A B C E Δ M' e' F G d1 d2 m budget a
    (mul_near (985 + i) F I (times_fits i a.p a.n (M + e) B E (size-high a) r) (times_fits i a.n a.p (M + e) B E (size_low a) r) a.val v)

-- x / c, for a whole number c
pub about_div : (i : ℕ) {x y : Float} {P N D M e : ℕ} (c M' e' : ℕ) → 985 + i ≤ 2044 → 0 < c → M ≤ M' * c → M + e < 2 ^ (54 + i) * c → e + 2 ^ i * c ≤ e' * c
    → Val y c 0 1 → About x P N D M e
    → About (div binary64 x y) (P * 1) (N * 1) (D * c) M' e'
about_div i {x} {y} {P} {N} {D} {M} {e} c M' e' I F m r budget v a =
    about_scaled i 1 1 c c 0 M' e' F F (omega arith) (omega arith) (subst (λ (z : ℕ). z ≤ M' * c) (sym (mul-one M)) m)
    (le_trans (le_of_eq (go e M c (2 ^ i))) (le_trans (mul-le-mul_right c budget) (le_of_eq (mul_assoc e' c c)))) a
    (div_near (985 + i) c F I (one a.p a.n (size-high a)) (one a.n a.p (size_low a)) a.val v)
  where
    go : (e M c t : ℕ) → e * (1 * c) + 0 * M + t * (c * c) ≡ (e + t * c) * c
    go e M c t = simp (one-mul, add-mul, mul_assoc) (omega arith)

    one : (p n : ℕ) → p ≤ n + (M + e) * U → p < n + 2 ^ (53 + (985 + i)) * c
    one p n h = subst₂ (λ (s t : ℕ). s < t + 2 ^ (53 + (985 + i)) * c) (mul-one p) (mul-one n)
        (times_fits i p n (M + e) 1 c h (subst (λ (z : ℕ). z < 2 ^ (54 + i) * c) (sym (mul-one (M + e))) r))

-- ---- of a value in days: x is within ps picoseconds of (P - N) / D days
-- 86400 * 10 ^ 12 picoseconds are a day
pub about_within : (ps : ℕ) {x : Float} {P N D M e : ℕ} → 86400000000000000 * e ≤ ps * 2 ^ 90 → About x P N D M e → Within ps x P N D
about_within ps {x} {P} {N} {D} {M} {e} h a = record {
  p = a.p;
  n = a.n;
  val = a.val;
  over = go (a.p * D + N * L) (a.n * D + P * L) a.over;
  under = go (a.n * D + P * L) (a.p * D + N * L) a.under;
}
  where
    last : 86400000000000000 * (e * (U * D)) ≤ ps * (L * D)
    last = le_trans (le_of_eq (sym (mul_assoc 86400000000000000 e (U * D))))
        (le_trans (mul-le-mul_right (U * D) h)
        (le_of_eq (mul_assoc ps (2 ^ 90) (U * D) ∙ ap (λ (z : ℕ). ps * z) (sym (mul_assoc (2 ^ 90) U D) ∙ ap (λ (z : ℕ). z * D) (sym L-U)))))

    go : (x y : ℕ) → x ≤ y + e * (U * D) → 86400000000000000 * x ≤ 86400000000000000 * y + ps * (L * D)
    go x y k = let g = mul-le-mul_left 86400000000000000 k in omega (arith, g, last, mul-add 86400000000000000 y (e * (U * D)))
