-- The fraction of a day times its two factors, and TAI-UTC in days added: the smaller part in TAI, near the row's line. Assumes nothing.
use mathlib.Core.Path.{◌≡◌, refl, sym, ap, ◌∙◌, subst, subst₂}
use Prim.Native.Nat.{ℕ, ◌+◌, ◌*◌, ◌^◌, ◌≤◌, ◌<◌}
use native.Mathlib.Nat.{add-mul, mul-add, mul_assoc, mul_comm, mul_left_comm, mul-le-mul_left, mul-le-mul_right, le_of_mul-le-mul_right, le_trans}
use native.Mathlib.Nat.{mul_right_comm, mul-pos}
use native.Mathlib.Omega.{arith}
use lib.Dec.{lit≤, lit<}
use lib.Ieee.{Float, binary64, add, mul, div}
use Rattle.constants.specs.Constants.{seconds_per_day}
use Rattle.rounding.specs.Value.{Val, L}
use Rattle.rounding.proofs.Value.{L-pos, add_rounds}
use Rattle.rounding.proofs.Signed.{product_le}
use Rattle.rounding.proofs.Scaled.{Scaled, mul_near, div_near}
use Rattle.julian.proofs.laws.UnixTime.{day-val}
use Rattle.utc_scales.proofs.drift.Seconds.{day_fs, Sec, Near, near-2, Factor, size-2, w, w-is, unit_2}

-- ---- x times a factor, both below about 1: day_fs z is within half of day_fs w and 22880 (L + 2 w) of R x, where R is day_fs + 10^5 r
times_day : (p : ℕ) → day_fs * (L * p) ≡ day_fs * p * L
times_day p = ap (λ (z : ℕ). day_fs * z) (mul_comm L p) ∙ sym (mul_assoc day_fs p L)

divided : (a b c d e f : ℕ) → 2 * (a * L) + 2 * (b * L) ≤ 2 * (c * L) + 2 * (d * L) + 2 * (e * L) + f * L → 2 * a + 2 * b ≤ 2 * c + 2 * d + 2 * e + f
divided a b c d e f h = le_of_mul-le-mul_right {k = L} (simp (add-mul, mul_assoc) (omega arith)) L-pos

pub record Times (z : Float) (P N r : ℕ) : Type 0 where
  pub p : ℕ
  pub n : ℕ
  pub val : Val z p n L
  pub over : day_fs * p + (day_fs + 100000 * r) * N ≤ day_fs * n + (day_fs + 100000 * r) * P + 32477 * L
  pub under : day_fs * n + (day_fs + 100000 * r) * P ≤ day_fs * p + (day_fs + 100000 * r) * N + 32477 * L

module _ {x c : Float} {P N : ℕ} (r : ℕ) (vx : Val x P N L) (k : Factor c (r * L)) (hr : r ≤ 25920000) (h1 : P ≤ N + (L + 2 * w))
    (h2 : N ≤ P + (L + 2 * w)) where
  abbrev R : ℕ
  R = day_fs + 100000 * r

  rate-small : r * L ≤ 25920000 * L
  rate-small = mul-le-mul_right L hr

  few : 4 * k.B ≤ 5 * L
  few = omega (arith, k.over, rate-small)

  room : (X Y : ℕ) → X ≤ Y + (L + 2 * w) → X * k.B < Y * k.B + 2 ^ (53 + 1022) * L
  room X Y h =
      subst (λ (i : ℕ). X * k.B < Y * k.B + i * L) (sym size-2)
      (go (X * k.B) (Y * k.B) ((L + 2 * w) * k.B) (L * k.B) (L * L) (2 * L * L) (mul_assoc 2 L L)
      (subst (λ (i : ℕ). X * k.B ≤ i) (add-mul Y (L + 2 * w) k.B) (mul-le-mul_right k.B h))
      (subst₂ (λ (i j : ℕ). i ≤ j) (mul_assoc 4 (L + 2 * w) k.B) (mul_assoc 5 L k.B) (mul-le-mul_right k.B wide))
      (subst₂ (λ (i j : ℕ). i ≤ j) (mul_left_comm L 4 k.B) (mul_left_comm L 5 L) (mul-le-mul_left L few)) (mul-pos L-pos L-pos))
    where
      wide : 4 * (L + 2 * w) ≤ 5 * L
      wide = omega (arith, unit_2)

      go : (x y m b l l2 : ℕ) → l2 ≡ 2 * l → x ≤ y + m → 4 * m ≤ 5 * b → 4 * b ≤ 5 * l → 0 < l → x < y + l2
      go x y m b l l2 e h i j p = omega arith

  product : Scaled (mul binary64 x c) P N k.B L 1022
  product = mul_near 1022 L-pos (lit≤ tt) (room P N h1) (room N P h2) vx k.val

  exact-high : day_fs * k.B ≤ R * L + 22880 * L
  exact-high = subst (λ (i : ℕ). day_fs * k.B ≤ i + 22880 * L) (sym (add-mul day_fs (100000 * r) L ∙ ap (λ (i : ℕ). day_fs * L + i) (mul_assoc 100000 r L)))
      k.over

  exact-low : R * L ≤ day_fs * k.B + 22880 * L
  exact-low = subst (λ (i : ℕ). i ≤ day_fs * k.B + 22880 * L) (sym (add-mul day_fs (100000 * r) L ∙ ap (λ (i : ℕ). day_fs * L + i) (mul_assoc 100000 r L)))
      k.under

  turned : (X Y p n : ℕ) → X ≤ Y + (L + 2 * w) → Y ≤ X + (L + 2 * w) → 2 * (L * p + k.B * Y) ≤ 2 * (L * n + k.B * X) + L * w
      → 2 * (day_fs * p) + 2 * (R * Y) ≤ 2 * (day_fs * n) + 2 * (R * X) + 2 * (22880 * (L + 2 * w)) + day_fs * w
  turned X Y p n h1 h2 h =
      divided (day_fs * p) (R * Y) (day_fs * n) (R * X) (22880 * (L + 2 * w)) (day_fs * w)
      (go (L * p) (L * n) (k.B * X) (k.B * Y) (L * w) (R * L * X) (R * L * Y) (22880 * L * (L + 2 * w)) (day_fs * k.B * X) (day_fs * k.B * Y) _ _ _ _ _ _
      (mul_assoc day_fs k.B X) (mul_assoc day_fs k.B Y)
      (times_day p) (times_day n) (times_day w) (mul_right_comm R L X) (mul_right_comm R L Y) (mul_right_comm 22880 L (L + 2 * w))
      (mul-le-mul_left day_fs h) (product_le (day_fs * k.B) (R * L) X Y (22880 * L) (L + 2 * w) exact-high exact-low h1 h2))
    where
      go : (lp ln bx by lw rx ry m dx dy p' n' w' x' y' m' : ℕ) → dx ≡ day_fs * bx → dy ≡ day_fs * by → day_fs * lp ≡ p' → day_fs * ln ≡ n' → day_fs * lw ≡ w'
          → rx ≡ x' → ry ≡ y' → m ≡ m'
          → day_fs * (2 * (lp + by)) ≤ day_fs * (2 * (ln + bx) + lw) → dx + ry ≤ dy + rx + m → 2 * p' + 2 * y' ≤ 2 * n' + 2 * x' + 2 * m' + w'
      go lp ln bx by lw rx ry m dx dy p' n' w' x' y' m' e1 e2 e3 e4 e5 e6 e7 e8 h k = omega arith

  last : (a b c d : ℕ) → 2 * a + 2 * b ≤ 2 * c + 2 * d + 2 * (22880 * (L + 2 * w)) + day_fs * w → a + b ≤ c + d + 32477 * L
  last a b c d h = omega (arith, unit_2)

  pub times : Times (mul binary64 x c) P N r
  times = record {
    p = product.p;
    n = product.n;
    val = product.val;
    over = last _ _ _ _ (turned P N product.p product.n h1 h2
        (subst (λ (i : ℕ). 2 * (L * product.p + k.B * N) ≤ 2 * (L * product.n + k.B * P) + L * i) w-is product.over));
    under = last _ _ _ _ (turned N P product.n product.p h2 h1
        (subst (λ (i : ℕ). 2 * (L * product.n + k.B * P) ≤ 2 * (L * product.p + k.B * N) + L * i) w-is product.under));
  }

-- ---- TAI-UTC in days
pub record Quotient (z : Float) (A B : ℕ) : Type 0 where
  pub p : ℕ
  pub n : ℕ
  pub val : Val z p n L
  pub over : day_fs * p + 100000 * B ≤ day_fs * n + 100000 * A + 1600 * L
  pub under : day_fs * n + 100000 * A ≤ day_fs * p + 100000 * B + 1600 * L

unfoldable u : ℕ
u = 2 ^ 1018

u-is : 2 ^ 1018 ≡ u
unfolding u
u-is = refl

unit_u : L ≡ 72057594037927936 * u
unfolding L u
unit_u = refl

size-u : 8 * 2 ^ (53 + 1018) ≡ L
unfolding L
size-u = refl

pub in-days : {x : Float} {A B : ℕ} → Sec x A B 1000 → A ≤ B + 120000000000 * L → B ≤ A + 120000000000 * L → Quotient (div binary64 x seconds_per_day) A B
in-days {x} {A} {B} a h1 h2 =
    let s = div_near 1018 86400 (lit< tt) (lit≤ tt) (fits a.p a.n A B (2 ^ (53 + 1018)) size-u h1 a.over)
    (fits a.n a.p B A (2 ^ (53 + 1018)) size-u h2 a.under) a.val day-val in
    record {
      p = s.p;
      n = s.n;
      val = s.val;
      over = go s.p s.n a.p a.n A B u unit_u
          (subst (λ (i : ℕ). 2 * (86400 * s.p + 1 * a.n) ≤ 2 * (86400 * s.n + 1 * a.p) + 86400 * i) u-is s.over) a.over;
      under = go s.n s.p a.n a.p B A u unit_u
          (subst (λ (i : ℕ). 2 * (86400 * s.n + 1 * a.p) ≤ 2 * (86400 * s.p + 1 * a.n) + 86400 * i) u-is s.under) a.under;
    }
  where
    fits : (p n A B i : ℕ) → 8 * i ≡ L → A ≤ B + 120000000000 * L → 1000000000000000 * p + 100000 * B ≤ 1000000000000000 * n + 100000 * A + 1000 * L
        → p < n + i * 86400
    fits p n A B i e h k = omega (arith, L-pos)

    go : (p n q m A B u : ℕ) → L ≡ 72057594037927936 * u → 2 * (86400 * p + 1 * m) ≤ 2 * (86400 * n + 1 * q) + 86400 * u
        → 1000000000000000 * q + 100000 * B ≤ 1000000000000000 * m + 100000 * A + 1000 * L → day_fs * p + 100000 * B ≤ day_fs * n + 100000 * A + 1600 * L
    go p n q m A B u e k l = omega arith

-- ---- the fraction f / L through both factors, and TAI-UTC in days added
pub record Summed (t : Float) (f r A B : ℕ) : Type 0 where
  pub p : ℕ
  pub n : ℕ
  pub val : Val t p n L
  pub over : day_fs * p + 100000 * B ≤ day_fs * n + day_fs * f + 100000 * (r * f) + 100000 * A + 76150 * L
  pub under : day_fs * n + day_fs * f + 100000 * (r * f) + 100000 * A ≤ day_fs * p + 100000 * B + 76150 * L

small-step : 32477 * L ≤ day_fs * (2 * w)
small-step = omega (arith, unit_2)

by_day : (p n f i j : ℕ) → day_fs * p ≤ day_fs * n + day_fs * f + i → i ≤ day_fs * j → p ≤ n + (f + j)
by_day p n f i j h k = omega arith

by-day' : (p n f i j : ℕ) → day_fs * n + day_fs * f ≤ day_fs * p + i → i ≤ day_fs * j → n + f ≤ p + j
by-day' p n f i j h k = omega arith

module _ {x c1 c2 q : Float} {f r A B : ℕ} (vx : Val x f 0 L) (hf : f < L) (k1 : Factor c1 (0 * L)) (k2 : Factor c2 (r * L)) (hr : r ≤ 25920000)
    (d : Quotient q A B) (h1 : A ≤ B + 120000000000 * L) (h2 : B ≤ A + 120000000000 * L) where
  once : Times (mul binary64 x c1) f 0 0
  once = times 0 vx k1 (omega arith) (omega arith) (omega arith)

  once-over : day_fs * once.p ≤ day_fs * once.n + day_fs * f + 32477 * L
  once-over = omega (arith, once.over)

  once_under : day_fs * once.n + day_fs * f ≤ day_fs * once.p + 32477 * L
  once_under = omega (arith, once.under)

  high : once.p ≤ once.n + (f + 2 * w)
  high = by_day once.p once.n f (32477 * L) (2 * w) once-over small-step

  low : once.n + f ≤ once.p + 2 * w
  low = by-day' once.p once.n f (32477 * L) (2 * w) once_under small-step

  rate-few : r * (2 * w) ≤ 25920000 * (2 * w)
  rate-few = mul-le-mul_right (2 * w) hr

  rates-high : r * once.p ≤ r * once.n + (r * f + r * (2 * w))
  rates-high = subst (λ (i : ℕ). r * once.p ≤ i) (mul-add r once.n (f + 2 * w) ∙ ap (λ (i : ℕ). r * once.n + i) (mul-add r f (2 * w)))
      (mul-le-mul_left r high)

  rates-low : r * once.n + r * f ≤ r * once.p + r * (2 * w)
  rates-low = subst₂ (λ (i j : ℕ). i ≤ j) (mul-add r once.n f) (mul-add r once.p (2 * w)) (mul-le-mul_left r low)

  twice : Times (mul binary64 (mul binary64 x c1) c2) once.p once.n r
  twice = times r once.val k2 hr (omega (arith, high)) (omega (arith, low))

  open_rate : (y : ℕ) → (day_fs + 100000 * r) * y ≡ day_fs * y + 100000 * (r * y)
  open_rate y = add-mul day_fs (100000 * r) y ∙ ap (λ (i : ℕ). day_fs * y + i) (mul_assoc 100000 r y)

  twice-over : day_fs * twice.p ≤ day_fs * twice.n + day_fs * f + 100000 * (r * f) + 64955 * L
  twice-over = go twice.p twice.n once.p once.n (r * once.p) (r * once.n) (r * f) (r * (2 * w)) _ _ (open_rate once.n) (open_rate once.p)
      twice.over once-over rates-high rate-few
    where
      go : (p n q m rq rm rf rw i j : ℕ) → i ≡ day_fs * m + 100000 * rm → j ≡ day_fs * q + 100000 * rq → day_fs * p + i ≤ day_fs * n + j + 32477 * L
          → day_fs * q ≤ day_fs * m + day_fs * f + 32477 * L → rq ≤ rm + (rf + rw) → rw ≤ 25920000 * (2 * w)
          → day_fs * p ≤ day_fs * n + day_fs * f + 100000 * rf + 64955 * L
      go p n q m rq rm rf rw i j e g h k l o = omega (arith, unit_2)

  twice-under : day_fs * twice.n + day_fs * f + 100000 * (r * f) ≤ day_fs * twice.p + 64955 * L
  twice-under = go twice.p twice.n once.p once.n (r * once.p) (r * once.n) (r * f) (r * (2 * w)) _ _ (open_rate once.n) (open_rate once.p)
      twice.under once_under rates-low rate-few
    where
      go : (p n q m rq rm rf rw i j : ℕ) → i ≡ day_fs * m + 100000 * rm → j ≡ day_fs * q + 100000 * rq → day_fs * n + j ≤ day_fs * p + i + 32477 * L
          → day_fs * m + day_fs * f ≤ day_fs * q + 32477 * L → rm + rf ≤ rq + rw → rw ≤ 25920000 * (2 * w)
          → day_fs * n + day_fs * f + 100000 * rf ≤ day_fs * p + 64955 * L
      go p n q m rq rm rf rw i j e g h k l o = omega (arith, unit_2)

  rate-part : r * f ≤ 25920000 * L
  rate-part = le_trans (mul-le-mul_right f hr) (mul-le-mul_left 25920000 (less f hf))
    where
      less : (f : ℕ) → f < L → f ≤ L
      less f h = omega arith

  total : Near 9007199254740992 (add binary64 (mul binary64 (mul binary64 x c1) c2) q) (twice.p + d.p) (twice.n + d.n)
  total = near-2 (omega (arith, twice-over, d.over, rate-part)) (omega (arith, twice-under, d.under)) (add_rounds binary64 L-pos twice.val d.val)

  pub summed : Summed (add binary64 (mul binary64 (mul binary64 x c1) c2) q) f r A B
  summed = record {
    p = total.p;
    n = total.n;
    val = total.val;
    over = over total.p total.n twice.p twice.n d.p d.n (r * f) total.over twice-over d.over;
    under = under total.p total.n twice.p twice.n d.p d.n (r * f) total.under twice-under d.under;
  }
    where
      over : (p n q m s t rf : ℕ) → 9007199254740992 * (p + (m + t)) ≤ 9007199254740992 * (n + (q + s)) + L
          → day_fs * q ≤ day_fs * m + day_fs * f + 100000 * rf + 64955 * L → day_fs * s + 100000 * B ≤ day_fs * t + 100000 * A + 1600 * L
          → day_fs * p + 100000 * B ≤ day_fs * n + day_fs * f + 100000 * rf + 100000 * A + 76150 * L
      over p n q m s t rf h k l = omega arith

      under : (p n q m s t rf : ℕ) → 9007199254740992 * (n + (q + s)) ≤ 9007199254740992 * (p + (m + t)) + L
          → day_fs * m + day_fs * f + 100000 * rf ≤ day_fs * q + 64955 * L → day_fs * t + 100000 * A ≤ day_fs * s + 100000 * B + 1600 * L
          → day_fs * n + day_fs * f + 100000 * rf + 100000 * A ≤ day_fs * p + 100000 * B + 76150 * L
      under p n q m s t rf h k l = omega arith
