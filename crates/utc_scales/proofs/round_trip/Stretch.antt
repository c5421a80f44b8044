-- The fraction of a day in days of 86,400 s, and TAI-UTC in days, from 1972 on: how far each rounded operation is off. Assumes nothing.
use mathlib.Core.Path.{◌≡◌, refl, ◌∙◌, subst, subst₂}
use mathlib.Core.Bool.{Bool, false}
use Prim.Native.Nat.{ℕ, suc, ◌+◌, ◌*◌, ◌^◌, ◌≤◌, ◌<◌}
use native.Mathlib.Nat.{mul-le-mul_left, mul-le-mul_right, mul-one, zero-mul}
use native.Mathlib.Omega.{arith}
use lib.Dec.{T, lit≤, lit<}
use lib.IntN.{pos, negsuc}
use lib.Ieee.{Float, fin, binary64, round, add, sub, mul, div, of_int, of_bits, fits}
use lib.Ieee.Fits.{mul-fits}
use Rattle.floats.specs.Whole.{nought, one}
use Rattle.constants.specs.Constants.{seconds_per_day}
use Rattle.leap_table.specs.rows.Table.{most_seconds}
use Rattle.rounding.specs.Value.{Val, Rounds, L}
use Rattle.rounding.proofs.Value.{L-is, L-pos, mul_rounds}
use Rattle.rounding.proofs.Casts.{of_int_val}
use Rattle.rounding.proofs.Sizes.{whole_val}
use Rattle.rounding.proofs.Scaled.{Scaled, mul_near, div_near}
use Rattle.julian.proofs.day_number.Units.{one-S}
use Rattle.julian.proofs.day_order.Once.{again}
use Rattle.julian.proofs.laws.UnixTime.{day-val}
use Rattle.leap_table.specs.offsets.Offset.{whole_f}
use Rattle.leap_table.specs.offsets.Leap.{offsets, drift_rate}
use Rattle.leap_days.proofs.drift.Tests.{each, same_f, same_float}
use Rattle.leap_days.proofs.Whole.{stay, step-up, step_down}
use Rattle.utc_scales.specs.UtcTai.{stretch_day_fraction}
use Rattle.utc_scales.specs.round_trip.UtcDays.{Ending, ends_plain, ends_longer, ends_shorter}
use Rattle.utc_scales.proofs.round_trip.Units.{h, L-h, two-h, two-L}

-- ---- the factors: 1.0; 86401 / 86400 rounded, which is 4503651752366183 * 2 ^ -52; and 86399 / 86400 rounded, which is 4503547502374809 * 2 ^ -52
abbrev pub K : Float
K = fin false 4503651752366183 (negsuc 51)

plain-day : div binary64 (add binary64 seconds_per_day nought) seconds_per_day ≡ one
unfolding seconds_per_day round add div
plain-day = refl

longer_day : div binary64 (add binary64 seconds_per_day one) seconds_per_day ≡ K
unfolding seconds_per_day round add div
longer_day = refl

pub K-val : Val K 4503651752366183 0 (2 ^ 52)
K-val = record { sign = false; size = 4503651752366183; has = (refl, refl); is = refl }

abbrev pub J : Float
J = fin false 4503547502374809 (negsuc 51)

shorter-day : div binary64 (add binary64 seconds_per_day (of_bits binary64 0xbff0_0000_0000_0000)) seconds_per_day ≡ J
unfolding seconds_per_day round add div of_bits
shorter-day = refl

pub J-val : Val J 4503547502374809 0 (2 ^ 52)
J-val = record { sign = false; size = 4503547502374809; has = (refl, refl); is = refl }

-- no drift
drift_test : ℕ → Bool
unfolding drift_rate round add sub mul of_int
drift_test k = same_f (drift_rate (offsets (whole_f k) (whole_f k) nought)) nought

no_drift : (k : ℕ) (x : Float) → k < 64 → drift_rate (offsets (whole_f k) (whole_f k) x) ≡ nought
unfolding drift_test drift_rate
no_drift k x l = same_float (drift_rate (offsets (whole_f k) (whole_f k) nought)) nought (each drift_test 64 k l tt)

abbrev factors : Float → Float → Float → Float
factors f leap drift = mul binary64 (mul binary64 f (div binary64 (add binary64 seconds_per_day leap) seconds_per_day))
    (div binary64 (add binary64 seconds_per_day drift) seconds_per_day)

pub plain-stretch : (k : ℕ) (f : Float) → k < 64 → stretch_day_fraction (offsets (whole_f k) (whole_f k) (whole_f k)) f ≡ mul binary64 (mul binary64 f one) one
unfolding stretch_day_fraction
plain-stretch k f l =
    (λ i. factors f ((stay k l).1 i) (no_drift k (whole_f k) l i))
    ∙ (λ i. mul binary64 (mul binary64 f (plain-day i)) (plain-day i))

pub longer_stretch : (k : ℕ) (f : Float) → k < 64 → stretch_day_fraction (offsets (whole_f k) (whole_f k) (whole_f (suc k))) f ≡ mul binary64
    (mul binary64 f K) one
unfolding stretch_day_fraction
longer_stretch k f l =
    (λ i. factors f ((step-up k l).1 i) (no_drift k (whole_f (suc k)) l i))
    ∙ (λ i. mul binary64 (mul binary64 f (longer_day i)) (plain-day i))

pub shorter-stretch : (k : ℕ) (f : Float) → k < 63
    → stretch_day_fraction (offsets (whole_f (suc k)) (whole_f (suc k)) (whole_f k)) f ≡ mul binary64 (mul binary64 f J) one
unfolding stretch_day_fraction
shorter-stretch k f l =
    let m : k < 64 = omega arith in
    let m' : suc k < 64 = omega arith in
    (λ i. factors f ((step_down k m).1 i) (no_drift (suc k) (whole_f k) m' i))
    ∙ (λ i. mul binary64 (mul binary64 f (shorter-day i)) (plain-day i))

-- ---- x * 1.0 is x
one-val : Val one 1 0 1
one-val = record { sign = false; size = 1; has = (refl, refl); is = refl }

pub times_one : {x : Float} {p n : ℕ} → Val x p n L → Rounds binary64 (mul binary64 x one) p n L
times_one {x} {p} {n} v =
    subst (λ (d : ℕ). Rounds binary64 (mul binary64 x one) p n d) (mul-one L)
    (subst₂ (λ (s t : ℕ). Rounds binary64 (mul binary64 x one) s t (L * 1)) (first p n) (second p n) (mul_rounds binary64 L-pos (lit< tt) v one-val))
  where
    first : (p n : ℕ) → p * 1 + n * 0 ≡ p
    first p n = omega arith

    second : (p n : ℕ) → p * 0 + n * 1 ≡ n
    second p n = omega arith

one-times-val : {x : Float} {p n : ℕ} → T (fits binary64 x) → Val x p n L → Val (mul binary64 x one) p n L
one-times-val f v = again f v (times_one v)

-- ---- THE STRETCHED FRACTION: z is (p - n) / L, and 86400 z is within 113792 h of (86400 + s - r) f
pub record Stretched (z : Float) (s r f : ℕ) : Type 0 where
  pub p : ℕ
  pub n : ℕ
  pub val : Val z p n L
  pub over : 86400 * p + r * f ≤ 86400 * n + (86400 * f + s * f) + 113792 * h
  pub under : 86400 * f + s * f + 86400 * n ≤ 86400 * p + r * f + 113792 * h

-- a fraction of a day times B / 2 ^ 52, which is less than 2
pub times : {x c : Float} {f B : ℕ} → B < 2 ^ 53 → Val c B 0 (2 ^ 52) → Val x f 0 L → f < L → Scaled (mul binary64 x c) f 0 B (2 ^ 52) 1022
times {x} {c} {f} {B} b vc vx l =
    let g : f * B ≤ f * 2 ^ 53 = mul-le-mul_left f (less B b) in
    mul_near 1022 (lit< tt) (lit≤ tt) (high (f * B) (0 * B) (2 ^ (53 + 1022)) two-L g) (low (f * B) (0 * B) (2 ^ (53 + 1022)) two-L (zero-mul B)) vx vc
  where
    less : (B : ℕ) → B < 2 ^ 53 → B ≤ 2 ^ 53
    less B b = omega arith

    high : (g o w : ℕ) → w ≡ 2 * L → g ≤ f * 2 ^ 53 → g < o + w * 2 ^ 52
    high g o w e k = omega arith

    low : (g o w : ℕ) → w ≡ 2 * L → o ≡ 0 → o < g + w * 2 ^ 52
    low g o w e k = omega (arith, L-pos)

-- a factor c = B / 2 ^ 52 of the fraction, for a day that ends with s seconds inserted and r left out
pub record Factor (c : Float) (s r : ℕ) : Type 0 where
  pub ends : Ending s r
  pub B : ℕ
  pub below : B < 2 ^ 53
  pub val : Val c B 0 (2 ^ 52)
  pub near : (x : Float) (f : ℕ) → Val x f 0 L → f < L → Stretched (mul binary64 (mul binary64 x c) one) s r f

pub plain-factor : Factor one 0 0
plain-factor = record { ends = ends_plain; B = 2 ^ 52; below = lit< tt; val = one-S; near = near }
  where
    near : (x : Float) (f : ℕ) → Val x f 0 L → f < L → Stretched (mul binary64 (mul binary64 x one) one) 0 0 f
    near x f v l =
        let k = times {B = 2 ^ 52} (lit< tt) one-S v l in
        record {
          p = k.p;
          n = k.n;
          val = one-times-val (mul-fits binary64 _ _) k.val;
          over = high k.p k.n (2 ^ 1022) two-h k.over;
          under =
              low k.p k.n (2 ^ 1022) two-h k.under;
        }
      where
        high : (p n w : ℕ) → w ≡ 2 * h → 2 * (2 ^ 52 * p + 2 ^ 52 * 0) ≤ 2 * (2 ^ 52 * n + 2 ^ 52 * f) + 2 ^ 52 * w
            → 86400 * p + 0 * f ≤ 86400 * n + (86400 * f + 0 * f) + 113792 * h
        high p n w e k = omega arith

        low : (p n w : ℕ) → w ≡ 2 * h → 2 * (2 ^ 52 * n + 2 ^ 52 * f) ≤ 2 * (2 ^ 52 * p + 2 ^ 52 * 0) + 2 ^ 52 * w
            → 86400 * f + 0 * f + 86400 * n ≤ 86400 * p + 0 * f + 113792 * h
        low p n w e k = omega arith

pub longer_factor : Factor K 1 0
longer_factor = record { ends = ends_longer; B = 4503651752366183; below = lit< tt; val = K-val; near = near }
  where
    near : (x : Float) (f : ℕ) → Val x f 0 L → f < L → Stretched (mul binary64 (mul binary64 x K) one) 1 0 f
    near x f v l =
        let k = times {B = 4503651752366183} (lit< tt) K-val v l in
        record {
          p = k.p;
          n = k.n;
          val = one-times-val (mul-fits binary64 _ _) k.val;
          over = high k.p k.n (2 ^ 1022) two-h k.over;
          under =
              low k.p k.n (2 ^ 1022) two-h k.under;
        }
      where
        high : (p n w : ℕ) → w ≡ 2 * h → 2 * (2 ^ 52 * p + 4503651752366183 * 0) ≤ 2 * (2 ^ 52 * n + 4503651752366183 * f) + 2 ^ 52 * w
            → 86400 * p + 0 * f ≤ 86400 * n + (86400 * f + 1 * f) + 113792 * h
        high p n w e k = omega (arith, L-h)

        low : (p n w : ℕ) → w ≡ 2 * h → 2 * (2 ^ 52 * n + 4503651752366183 * f) ≤ 2 * (2 ^ 52 * p + 4503651752366183 * 0) + 2 ^ 52 * w
            → 86400 * f + 1 * f + 86400 * n ≤ 86400 * p + 0 * f + 113792 * h
        low p n w e k = omega (arith, L-h)

pub shorter-factor : Factor J 0 1
shorter-factor = record { ends = ends_shorter; B = 4503547502374809; below = lit< tt; val = J-val; near = near }
  where
    near : (x : Float) (f : ℕ) → Val x f 0 L → f < L → Stretched (mul binary64 (mul binary64 x J) one) 0 1 f
    near x f v l =
        let k = times {B = 4503547502374809} (lit< tt) J-val v l in
        record {
          p = k.p;
          n = k.n;
          val = one-times-val (mul-fits binary64 _ _) k.val;
          over = high k.p k.n (2 ^ 1022) two-h k.over;
          under =
              low k.p k.n (2 ^ 1022) two-h k.under;
        }
      where
        high : (p n w : ℕ) → w ≡ 2 * h → 2 * (2 ^ 52 * p + 4503547502374809 * 0) ≤ 2 * (2 ^ 52 * n + 4503547502374809 * f) + 2 ^ 52 * w
            → 86400 * p + 1 * f ≤ 86400 * n + (86400 * f + 0 * f) + 113792 * h
        high p n w e k = omega (arith, L-h)

        low : (p n w : ℕ) → w ≡ 2 * h → 2 * (2 ^ 52 * n + 4503547502374809 * f) ≤ 2 * (2 ^ 52 * p + 4503547502374809 * 0) + 2 ^ 52 * w
            → 86400 * f + 0 * f + 86400 * n ≤ 86400 * p + 1 * f + 113792 * h
        low p n w e k = omega (arith, L-h)

-- ---- the factor of a day that begins with D seconds and ends with E, D + s ≡ E + r
pub record DayFactor (D s r E : ℕ) : Type 0 where
  pub c : Float
  pub factor : Factor c s r
  pub is : (x : Float) → stretch_day_fraction (offsets (whole_f D) (whole_f D) (whole_f E)) x ≡ mul binary64 (mul binary64 x c) one

abbrev pub plain-day-factor : (D : ℕ) → D < 64 → DayFactor D 0 0 D
plain-day-factor D l = record { c = one; factor = plain-factor; is = λ x. plain-stretch D x l }

abbrev pub longer_day_factor : (D : ℕ) → D < 64 → DayFactor D 1 0 (suc D)
longer_day_factor D l = record { c = K; factor = longer_factor; is = λ x. longer_stretch D x l }

abbrev shorter-day-factor : (E : ℕ) → E < 63 → DayFactor (suc E) 0 1 E
shorter-day-factor E l = record { c = J; factor = shorter-factor; is = λ x. shorter-stretch E x l }

pub day-factor : {s r : ℕ} (D E : ℕ) → D ≤ most_seconds → E ≤ most_seconds → Ending s r → D + s ≡ E + r → DayFactor D s r E
day-factor D E l k ends_plain e = subst (DayFactor D 0 0) (same D E e) (plain-day-factor D (omega arith))
  where
    same : (D E : ℕ) → D + 0 ≡ E + 0 → D ≡ E
    same D E e = omega arith
day-factor D E l k ends_longer e = subst (DayFactor D 1 0) (more D E e) (longer_day_factor D (omega arith))
  where
    more : (D E : ℕ) → D + 1 ≡ E + 0 → suc D ≡ E
    more D E e = omega arith
day-factor D E l k ends_shorter e = subst (λ (x : ℕ). DayFactor x 0 1 E) (less D E e) (shorter-day-factor E (omega arith))
  where
    less : (D E : ℕ) → D + 0 ≡ E + 1 → suc E ≡ D
    less D E e = omega arith

-- ---- TAI-UTC IN DAYS: z is (p - n) / L, and 86400 z is within 43 h of D
pub record Quotient (z : Float) (D : ℕ) : Type 0 where
  pub p : ℕ
  pub n : ℕ
  pub val : Val z p n L
  pub over : 86400 * p ≤ 86400 * n + D * L + 43 * h
  pub under : D * L + 86400 * n ≤ 86400 * p + 43 * h

seconds-val : (D : ℕ) → D ≤ most_seconds → Val (whole_f D) (D * L) 0 L
seconds-val D l = subst (λ (z : ℕ). Val (whole_f D) (D * L) z L) (zero-mul L) (whole_val (of_int_val (pos D) (omega arith) (omega arith)))

L-b : L ≡ 1024 * 2 ^ (53 + 1011)
L-b = L-is

h_w : h ≡ 1024 * 2 ^ 1011
unfolding h
h_w = refl

pub in-days : (D : ℕ) → D ≤ most_seconds → Quotient (div binary64 (whole_f D) seconds_per_day) D
in-days D l =
    go (div_near 1011 86400 (lit< tt) (lit≤ tt) (room (D * L) (2 ^ (53 + 1011)) L-b (mul-le-mul_right L l)) (room' (D * L) (2 ^ (53 + 1011)) L-b)
    (seconds-val D l) day-val)
  where
    room : (d b : ℕ) → L ≡ 1024 * b → d ≤ most_seconds * L → d < 0 + b * 86400
    room d b e k = omega (arith, L-pos)

    room' : (d b : ℕ) → L ≡ 1024 * b → 0 < d + b * 86400
    room' d b e = omega (arith, L-pos)

    go : Scaled (div binary64 (whole_f D) seconds_per_day) (D * L) 0 1 86400 1011 → Quotient (div binary64 (whole_f D) seconds_per_day) D
    go k = record {
      p = k.p;
      n = k.n;
      val = k.val;
      over = high k.p k.n (D * L) (2 ^ 1011) h_w k.over;
      under = low k.p k.n (D * L) (2 ^ 1011) h_w k.under;
    }
      where
        high : (p n d w : ℕ) → h ≡ 1024 * w → 2 * (86400 * p + 1 * 0) ≤ 2 * (86400 * n + 1 * d) + 86400 * w → 86400 * p ≤ 86400 * n + d + 43 * h
        high p n d w e k = omega arith

        low : (p n d w : ℕ) → h ≡ 1024 * w → 2 * (86400 * n + 1 * d) ≤ 2 * (86400 * p + 1 * 0) + 86400 * w → d + 86400 * n ≤ 86400 * p + 43 * h
        low p n d w e k = omega arith
