-- One rounded operation on values in units of 1 / L: a result below 2 ^ i days in size is off by at most 2 ^ i * E units, where E units are 2 ^ -54 day.
-- Assumes nothing.
use mathlib.Core.Path.{◌≡◌, refl, sym, ap, ◌∙◌, subst}
use Prim.Native.Nat.{ℕ, ◌+◌, ◌*◌, ◌^◌, ◌≤◌, ◌<◌}
use native.Mathlib.Nat.{mul_comm, mul_assoc, mul_left_comm, add-mul, mul-le-mul_right}
use native.Mathlib.Omega.{arith}
use lib.Pow.{pow-add}
use lib.Ieee.{Float, binary64, add, sub, mul, div}
use Rattle.rounding.specs.Value.{Val, L}
use Rattle.rounding.specs.Picoseconds.{Within}
use Rattle.rounding.proofs.Value.{L-pos, L-is, val-scale, div_rounds}
use Rattle.rounding.proofs.Near.{NearSum, add_near, sub_near}
use Rattle.rounding.proofs.Scaled.{Scaled, scaled_near, mul_near}
use Rattle.rounding.proofs.Chain.{ValClose}
use Rattle.julian.specs.declared.JulianDate.{JulianDate}
use Rattle.julian.specs.Worth.{Worth}

-- 2 ^ -54 day. Shut on purpose, as L is
unfoldable pub E : ℕ
E = 2 ^ 1020

pub L-E : L ≡ 18014398509481984 * E
unfolding L E
L-E = refl

half-unit : (i : ℕ) → 2 ^ (1021 + i) ≡ 2 * (2 ^ i * E)
unfolding E
half-unit i = pow-add 2 1021 i ∙ go (2 ^ 1020) (2 ^ i) (2 ^ 1021) refl
  where
    go : (u t v : ℕ) → v ≡ 2 * u → v * t ≡ 2 * (t * u)
    go u t v h = ap (λ (x : ℕ). x * t) h ∙ mul_assoc 2 u t ∙ ap (λ (x : ℕ). 2 * x) (mul_comm u t)

room : (i : ℕ) → 2 ^ (53 + (1021 + i)) ≡ 2 ^ i * L
room i = ap (λ (x : ℕ). 2 ^ x) (go i) ∙ pow-add 2 i 1074 ∙ ap (λ (x : ℕ). 2 ^ i * x) (sym L-is)
  where
    go : (i : ℕ) → 53 + (1021 + i) ≡ i + 1074
    go i = omega arith

wide : (i x y : ℕ) → x < y + 2 ^ i * L → x < y + 2 ^ (53 + (1021 + i))
wide i x y h = subst (λ (z : ℕ). x < y + z) (sym (room i)) h

halved : (i x y w : ℕ) → w ≡ 2 * (2 ^ i * E) → 2 * x ≤ 2 * y + w → x ≤ y + 2 ^ i * E
halved i x y w e h = omega arith

near-sum : (i : ℕ) {z : Float} {P N : ℕ} → NearSum z P N (1021 + i) → ValClose L z P N (2 ^ i * E)
near-sum i {z} {P} {N} k = record {
  p = k.p;
  n = k.n;
  val = k.val;
  over = halved i (k.p + N) (k.n + P) (2 ^ (1021 + i)) (half-unit i) k.over;
  under = halved i (k.n + P) (k.p + N) (2 ^ (1021 + i)) (half-unit i) k.under;
}

pub step-add : (i : ℕ) {x y : Float} {p n q m : ℕ} → 1021 + i ≤ 2044 → p + q < n + m + 2 ^ i * L → n + m < p + q + 2 ^ i * L → Val x p n L → Val y q m L
    → ValClose L (add binary64 x y) (p + q) (n + m) (2 ^ i * E)
step-add i {x} {y} {p} {n} {q} {m} I h k v w = near-sum i (add_near (1021 + i) I (wide i (p + q) (n + m) h) (wide i (n + m) (p + q) k) v w)

pub step-sub : (i : ℕ) {x y : Float} {p n q m : ℕ} → 1021 + i ≤ 2044 → p + m < n + q + 2 ^ i * L → n + q < p + m + 2 ^ i * L → Val x p n L → Val y q m L
    → ValClose L (sub binary64 x y) (p + m) (n + q) (2 ^ i * E)
step-sub i {x} {y} {p} {n} {q} {m} I h k v w = near-sum i (sub_near (1021 + i) I (wide i (p + m) (n + q) h) (wide i (n + q) (p + m) k) v w)

-- ---- a product by B / C and a quotient by C / B, in C-ths of a unit

-- z is within r units of (P - N) * B / C
pub record Times (z : Float) (P N B C r : ℕ) : Type 0 where
  pub p : ℕ
  pub n : ℕ
  pub val : Val z p n L
  pub over : C * p + B * N ≤ C * n + B * P + C * r
  pub under : C * n + B * P ≤ C * p + B * N + C * r

wide-times : (i x y C : ℕ) → x < y + 2 ^ i * L * C → x < y + 2 ^ (53 + (1021 + i)) * C
wide-times i x y C h = subst (λ (z : ℕ). x < y + z * C) (sym (room i)) h

times_of : (i : ℕ) {z : Float} {P N B C : ℕ} → Scaled z P N B C (1021 + i) → Times z P N B C (2 ^ i * E)
times_of i {z} {P} {N} {B} {C} k = record { p = k.p; n = k.n; val = k.val; over = go _ _ k.over; under = go _ _ k.under }
  where
    go : (x y : ℕ) → 2 * x ≤ 2 * y + C * 2 ^ (1021 + i) → x ≤ y + C * (2 ^ i * E)
    go x y h = last x y (C * 2 ^ (1021 + i)) (C * (2 ^ i * E)) (ap (λ (w : ℕ). C * w) (half-unit i) ∙ mul_left_comm C 2 (2 ^ i * E)) h
      where
        last : (x y s t : ℕ) → s ≡ 2 * t → 2 * x ≤ 2 * y + s → x ≤ y + t
        last x y s t e h = omega arith

pub step-mul : (i : ℕ) {x y : Float} {P N B C : ℕ} → 0 < C → 1021 + i ≤ 2044 → P * B < N * B + 2 ^ i * L * C → N * B < P * B + 2 ^ i * L * C → Val x P N L
    → Val y B 0 C → Times (mul binary64 x y) P N B C (2 ^ i * E)
step-mul i {x} {y} {P} {N} {B} {C} G I h k v w = times_of i (mul_near (1021 + i) G I (wide-times i (P * B) (N * B) C h) (wide-times i (N * B) (P * B) C k) v w)

pub step-div : (i : ℕ) {x y : Float} {P N B C : ℕ} → 0 < B → 0 < C → 1021 + i ≤ 2044 → P * B < N * B + 2 ^ i * L * C → N * B < P * B + 2 ^ i * L * C
    → Val x P N L → Val y C 0 B → Times (div binary64 x y) P N B C (2 ^ i * E)
step-div i {x} {y} {P} {N} {B} {C} F G I h k v w =
    times_of i (scaled_near (1021 + i) G I (wide-times i (P * B) (N * B) C h) (wide-times i (N * B) (P * B) C k) (div_rounds binary64 L-pos F G v w))

-- ---- a value in half days, in units

-- half a day
abbrev pub H : ℕ
H = 9007199254740992 * E

pub L-H : L ≡ 2 * H
L-H = go E L L-E
  where
    go : (e l : ℕ) → l ≡ 18014398509481984 * e → l ≡ 2 * (9007199254740992 * e)
    go e l h = omega arith

pub half-val : {x : Float} {p n : ℕ} → Val x p n 2 → Val x (p * H) (n * H) L
half-val {x} {p} {n} v = subst (Val x (p * H) (n * H)) (sym L-H) (val-scale H v)

-- ---- a date is worth its parts

pub worth-of : {d : JulianDate} {p n q m : ℕ} → Val d.jd1 p n L → Val d.jd2 q m L → Worth d (p + q) (n + m) L
worth-of {p = p} {n = n} {q = q} {m = m} v w = record { p = p; n = n; q = q; m = m; first = v; second = w; total = refl }

-- ---- a distance in units as one in picoseconds

pub within_of : (ps : ℕ) {z : Float} {P N r : ℕ} → 86400000000000000 * r ≤ ps * L → ValClose L z P N r → Within ps z P N L
within_of ps {z} {P} {N} {r} h c = record { p = c.p; n = c.n; val = c.val; over = go c.p c.n P N c.over; under = go c.n c.p N P c.under }
  where
    go : (p n P N : ℕ) → p + N ≤ n + P + r → 86400000000000000 * (p * L + N * L) ≤ 86400000000000000 * (n * L + P * L) + ps * (L * L)
    go p n P N k = scaled (p + N) (n + P) (p * L + N * L) (n * L + P * L) (sym (add-mul p N L)) (sym (add-mul n P L)) k
      where
        scaled : (x y s t : ℕ) → s ≡ x * L → t ≡ y * L → x ≤ y + r → 86400000000000000 * s ≤ 86400000000000000 * t + ps * (L * L)
        scaled x y s t e f k =
            let g : x * L ≤ (y + r) * L = mul-le-mul_right L k in
            let i : 86400000000000000 * r * L ≤ ps * L * L = mul-le-mul_right L h in
            last (x * L) (y * L) ((y + r) * L) (r * L) s t (86400000000000000 * r * L) (ps * L * L) (ps * (L * L)) e f g (add-mul y r L)
            (mul_assoc 86400000000000000 r L) (mul_assoc ps L L) i
          where
            last : (x y z r s t u v w : ℕ) → s ≡ x → t ≡ y → x ≤ z → z ≡ y + r → u ≡ 86400000000000000 * r → v ≡ w → u ≤ v
                → 86400000000000000 * s ≤ 86400000000000000 * t + w
            last x y z r s t u v w a b c d e f g = omega arith
