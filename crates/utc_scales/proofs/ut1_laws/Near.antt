-- UT1 TO UTC ABOUT A LEAP SECOND that is inserted, by a DUT1 whose sign fits it: to 17 ps. Assumes nothing.
use mathlib.Core.Path.{◌≡◌, refl, sym, ap, ◌∙◌, subst}
use mathlib.Core.Bool.{Bool, true, false, cond}
use Prim.Native.Nat.{ℕ, suc, ◌+◌, ◌*◌, ◌^◌, ◌≤◌, ◌<◌}
use native.Mathlib.Nat.{add-mul, one-mul, mul-le-mul_right}
use native.Mathlib.Omega.{arith}
use lib.Dec.{T, lit≤, lit<}
use lib.IntN.{ℤ, pos, ◌-ℤ◌}
use lib.Ieee.{Float, binary64, round, add, sub, mul, div, of_int, fits, lt}
use lib.Ieee.Fits.{div-fits}
use Rattle.floats.specs.Whole.{nought, one}
use Rattle.constants.specs.Constants.{seconds_per_day, mjd_zero_point}
use Rattle.rounding.specs.Value.{Val, Rounds, L, plus_z, minus_z}
use Rattle.rounding.proofs.Value.{L-pos, val-move, val-scale, rounds-move, mul_rounds}
use Rattle.rounding.proofs.Casts.{of_int_val, sub_pair, sub_le}
use Rattle.rounding.proofs.Compare.{lt_true, lt_false}
use Rattle.rounding.proofs.Exact.{sub_exact}
use Rattle.rounding.proofs.Near.{NearSum, add_near, sub_near}
use Rattle.rounding.proofs.Scaled.{Scaled, mul_near, div_near}
use Rattle.rounding.proofs.Sizes.{whole_val}
use Rattle.julian.proofs.Midnights.{zero_point_val}
use Rattle.julian.proofs.day_number.Units.{one-L, nought-L}
use Rattle.julian.proofs.day_order.Once.{again}
use Rattle.julian.proofs.laws.UnixTime.{day-val}
use Rattle.utc_scales.specs.from_ut1.Ut1Utc.{at_most_one, after_step}
use Rattle.utc_scales.specs.round_trip.UtcDays.{H}
use Rattle.utc_scales.proofs.round_trip.Units.{h, L-H, L-h, h_small, h_pos, add_close}
use Rattle.utc_scales.proofs.round_trip.Parts.{FirstPart, half-days}
use Rattle.utc_scales.proofs.round_trip.Midnight.{halves-val, k_high}
use Rattle.utc_scales.proofs.ut1_laws.Ut1.{size-q, unit_q}

-- ---- sizes and units of the sums
days-16 : 2 ^ (53 + 1037) ≡ 65536 * L
unfolding L
days-16 = refl

units-16 : 2 ^ 1037 ≡ 65536 * h
unfolding h
units-16 = refl

days-3 : 2 ^ (53 + 1024) ≡ 8 * L
unfolding L
days-3 = refl

units-3 : 2 ^ 1024 ≡ 8 * h
unfolding h
units-3 = refl

days-20 : 2 ^ (53 + 1041) ≡ 1048576 * L
unfolding L
days-20 = refl

units-20 : 2 ^ 1041 ≡ 1048576 * h
unfolding h
units-20 = refl

-- ---- 86,401 s; 1.0 is an f64, and times 1.0
long-val : Val (add binary64 seconds_per_day one) 86401 0 1
unfolding seconds_per_day round add
long-val = record { sign = false; size = 86401; has = (refl, refl); is = refl }

one-fits : T (fits binary64 one)
unfolding fits
one-fits = tt

pub one-times : {c : Float} {p n : ℕ} → Val c p n L → Rounds binary64 (mul binary64 one c) p n L
one-times {c} {p} {n} v =
    rounds-move (subst (λ (d : ℕ). Rounds binary64 (mul binary64 one c) (1 * p + 0 * n) (1 * n + 0 * p) d) (one-mul L)
    (mul_rounds binary64 (lit< tt) L-pos (record { sign = false; size = 1; has = (refl, refl); is = refl }) v)) (omega arith)

-- ---- the days since the start of day k, in UT1: a and u are UT1, b = (x - y) / L the DUT1 before the leap second
module _ {a u b : Float} {A up un x y : ℕ} (v : FirstPart a A) (vu : Val u up un L) (hu : up ≤ un + L) (lu : un ≤ up + L) (vb : Val b x y L) (hx : x ≤ y + h)
    (hy : y ≤ x + L + h) (k : ℕ) (low : 2441317 ≤ k) (high : k ≤ 2465533) (near : A + up + H ≤ un + k * L + 5 * L) (near' : un + k * L ≤ A + up + H + 5 * L)
  where
    q : Scaled (div binary64 b seconds_per_day) x y 1 86400 1012
    q = div_near 1012 86400 (lit< tt) (lit≤ tt) (room x y (2 ^ (53 + 1012)) size-q (omega (arith, hx, h_small)))
        (room y x (2 ^ (53 + 1012)) size-q (omega (arith, hy, h_small))) vb day-val
      where
        room : (x y z : ℕ) → 512 * z ≡ L → x ≤ y + 2 * L → x < y + z * 86400
        room x y z e l = omega (arith, L-pos)

    abbrev pub z : ℤ
    z = pos (suc k) -ℤ pos 2400001

    z_is : plus_z z + 2400001 ≡ minus_z z + suc k
    z_is = omega (arith, sub_pair (pos (suc k)) (pos 2400001))

    day-start : Val (sub binary64 (of_int binary64 z) one) ((plus_z z + 0) * L) ((minus_z z + 1) * L) L
    day-start =
        let s = sub_le (pos (suc k)) (pos 2400001) in
        whole_val (sub_exact 0 {p = plus_z z} {n = minus_z z} {q = 1} {m = 0} (lit≤ tt) (omega (arith, s.0)) (omega (arith, s.1))
        (of_int_val z (omega (arith, s.0)) (omega (arith, s.1))) (record { sign = false; size = 1; has = (refl, refl); is = refl }))

    start_is : (plus_z z + 0) * L + 2400001 * L ≡ (minus_z z + 1) * L + k * L
    start_is = sym (add-mul (plus_z z + 0) 2400001 L) ∙ ap (λ (w : ℕ). w * L) (same (plus_z z) (minus_z z) z_is) ∙ add-mul (minus_z z + 1) k L
      where
        same : (p m : ℕ) → p + 2400001 ≡ m + suc k → p + 0 + 2400001 ≡ m + 1 + k
        same p m e = omega arith

    abbrev pub start : Float
    start = add binary64 (sub binary64 (of_int binary64 z) one) (div binary64 b seconds_per_day)

    -- rounded by at most 32768 h
    started : NearSum start ((plus_z z + 0) * L + q.p) ((minus_z z + 1) * L + q.n) 1037
    started =
        add_near 1037 (lit≤ tt)
        (subst (λ (w : ℕ). (plus_z z + 0) * L + q.p < (minus_z z + 1) * L + q.n + w) (sym days-16)
        (fit ((plus_z z + 0) * L) ((minus_z z + 1) * L) (k * L) q.p q.n (2 ^ 1012) unit_q start_is (mul-le-mul_right L high) q.over))
        (subst (λ (w : ℕ). (minus_z z + 1) * L + q.n < (plus_z z + 0) * L + q.p + w) (sym days-16)
        (fit' ((plus_z z + 0) * L) ((minus_z z + 1) * L) (k * L) q.p q.n (2 ^ 1012) unit_q start_is (mul-le-mul_right L low) q.under))
        day-start q.val
      where
        fit : (P N K p n w : ℕ) → 512 * w ≡ h → P + 2400001 * L ≡ N + K → K ≤ 2465533 * L → 2 * (86400 * p + 1 * y) ≤ 2 * (86400 * n + 1 * x) + 86400 * w
            → P + p < N + n + 65536 * L
        fit P N K p n w e i j l = omega (arith, hx, h_small, L-pos)

        fit' : (P N K p n w : ℕ) → 512 * w ≡ h → P + 2400001 * L ≡ N + K → 2441317 * L ≤ K → 2 * (86400 * n + 1 * x) ≤ 2 * (86400 * p + 1 * y) + 86400 * w
            → N + n < P + p + 65536 * L
        fit' P N K p n w e i j l = omega (arith, hy, h_small, L-pos)

    -- u less it, rounded by at most 32768 h again
    less-start : NearSum (sub binary64 u start) (up + started.n) (un + started.p) 1037
    less-start =
        sub_near 1037 (lit≤ tt)
        (subst (λ (w : ℕ). up + started.n < un + started.p + w) (sym days-16)
        (fit ((plus_z z + 0) * L) ((minus_z z + 1) * L) (k * L) q.p q.n started.p started.n (2 ^ 1012) (2 ^ 1037) unit_q units-16 start_is
        (mul-le-mul_right L low) q.under started.under))
        (subst (λ (w : ℕ). un + started.p < up + started.n + w) (sym days-16)
        (fit' ((plus_z z + 0) * L) ((minus_z z + 1) * L) (k * L) q.p q.n started.p started.n (2 ^ 1012) (2 ^ 1037) unit_q units-16 start_is
        (mul-le-mul_right L high) q.over started.over))
        vu started.val
      where
        fit : (P N K p n s t w g : ℕ) → 512 * w ≡ h → g ≡ 65536 * h → P + 2400001 * L ≡ N + K → 2441317 * L ≤ K
            → 2 * (86400 * n + 1 * x) ≤ 2 * (86400 * p + 1 * y) + 86400 * w → 2 * (t + (P + p)) ≤ 2 * (s + (N + n)) + g → up + t < un + s + 65536 * L
        fit P N K p n s t w g e f i j l m = omega (arith, hu, hy, h_small, L-pos)

        fit' : (P N K p n s t w g : ℕ) → 512 * w ≡ h → g ≡ 65536 * h → P + 2400001 * L ≡ N + K → K ≤ 2465533 * L
            → 2 * (86400 * p + 1 * y) ≤ 2 * (86400 * n + 1 * x) + 86400 * w → 2 * (s + (N + n)) ≤ 2 * (t + (P + p)) + g → un + s < up + t + 65536 * L
        fit' P N K p n s t w g e f i j l m = omega (arith, lu, hx, h_small, L-pos)

    -- a less 2400000.5, exactly
    from_zero : Val (sub binary64 a mjd_zero_point) A (4800001 * H) L
    from_zero =
        let c = k_high (half-days v) in
        let e = sub_exact 1 {p = v.k} {n = 0} {q = 4800001} {m = 0} (lit≤ tt) (omega arith) (omega arith) (halves-val (half-days v)) zero_point_val in
        val-move (subst (λ (d : ℕ). Val (sub binary64 a mjd_zero_point) ((v.k + 0) * H) ((0 + 4800001) * H) d) (sym L-H) (val-scale H e))
        (go ((v.k + 0) * H) ((0 + 4800001) * H) (ap (λ (w : ℕ). w * H) (plain v.k) ∙ sym v.halves) refl)
      where
        plain : (k : ℕ) → k + 0 ≡ k
        plain k = omega arith

        go : (x y : ℕ) → x ≡ A → y ≡ 4800001 * H → x + 4800001 * H ≡ A + y
        go x y e f = omega arith

    abbrev pub past : Float
    past = add binary64 (sub binary64 a mjd_zero_point) (sub binary64 u start)

    -- 86400 times the days since the start of day k, within 5662656085 h: 86400 times 65536 h and 4 h, and 85 h
    record Past : Type 0 where
      p : ℕ
      n : ℕ
      val : Val past p n L
      over : 86400 * (p + (un + k * L)) + x ≤ 86400 * (n + (A + up + H)) + y + 5662656085 * h
      under : 86400 * (n + (A + up + H)) + y ≤ 86400 * (p + (un + k * L)) + x + 5662656085 * h

    since : Past
    since = record {
      p = s.p;
      n = s.n;
      val = s.val;
      over = over _ _ _ q.p q.n started.p started.n less-start.p less-start.n s.p s.n (2 ^ 1012) (2 ^ 1037) (2 ^ 1024) unit_q units-16
          units-3
          start_is q.under started.under less-start.over s.over;
      under = under _ _ _ q.p q.n started.p started.n less-start.p less-start.n s.p s.n (2 ^ 1012) (2 ^ 1037) (2 ^ 1024) unit_q units-16
          units-3 start_is q.over started.over less-start.under s.under;
    }
      where
        over : (P N K p n s t d e f g w i j : ℕ) → 512 * w ≡ h → i ≡ 65536 * h → j ≡ 8 * h → P + 2400001 * L ≡ N + K
            → 2 * (86400 * n + 1 * x) ≤ 2 * (86400 * p + 1 * y) + 86400 * w → 2 * (t + (P + p)) ≤ 2 * (s + (N + n)) + i
            → 2 * (d + (un + s)) ≤ 2 * (e + (up + t)) + i → 2 * (f + (4800001 * H + e)) ≤ 2 * (g + (A + d)) + j
            → 86400 * (f + (un + K)) + x ≤ 86400 * (g + (A + up + H)) + y + 5662656085 * h
        over P N K p n s t d e f g w i j a b c o l m r z = omega (arith, L-H)

        under : (P N K p n s t d e f g w i j : ℕ) → 512 * w ≡ h → i ≡ 65536 * h → j ≡ 8 * h → P + 2400001 * L ≡ N + K
            → 2 * (86400 * p + 1 * y) ≤ 2 * (86400 * n + 1 * x) + 86400 * w → 2 * (s + (N + n)) ≤ 2 * (t + (P + p)) + i
            → 2 * (e + (up + t)) ≤ 2 * (d + (un + s)) + i → 2 * (g + (A + d)) ≤ 2 * (f + (4800001 * H + e)) + j
            → 86400 * (g + (A + up + H)) + y ≤ 86400 * (f + (un + K)) + x + 5662656085 * h
        under P N K p n s t d e f g w i j a b c o l m r z = omega (arith, L-H)

        s : NearSum past (A + less-start.p) (4800001 * H + less-start.n) 1024
        s = add_near 1024 (lit≤ tt)
            (subst (λ (w : ℕ). A + less-start.p < 4800001 * H + less-start.n + w) (sym days-3)
            (fit _ _ q.p q.n started.p started.n less-start.p less-start.n (2 ^ 1012) (2 ^ 1037) unit_q units-16 start_is q.under
            started.under less-start.over))
            (subst (λ (w : ℕ). 4800001 * H + less-start.n < A + less-start.p + w) (sym days-3)
            (fit' _ _ q.p q.n started.p started.n less-start.p less-start.n (2 ^ 1012) (2 ^ 1037) unit_q units-16 start_is q.over
            started.over less-start.under))
            from_zero less-start.val
          where
            fit : (P N p n s t d e w i : ℕ) → 512 * w ≡ h → i ≡ 65536 * h → P + 2400001 * L ≡ N + k * L
                → 2 * (86400 * n + 1 * x) ≤ 2 * (86400 * p + 1 * y) + 86400 * w → 2 * (t + (P + p)) ≤ 2 * (s + (N + n)) + i
                → 2 * (d + (un + s)) ≤ 2 * (e + (up + t)) + i → A + d < 4800001 * H + e + 8 * L
            fit P N p n s t d e w i a b o l m r = omega (arith, near, hy, h_small, L-H, L-pos)

            fit' : (P N p n s t d e w i : ℕ) → 512 * w ≡ h → i ≡ 65536 * h → P + 2400001 * L ≡ N + k * L
                → 2 * (86400 * p + 1 * y) ≤ 2 * (86400 * n + 1 * x) + 86400 * w → 2 * (s + (N + n)) ≤ 2 * (t + (P + p)) + i
                → 2 * (e + (up + t)) ≤ 2 * (d + (un + s)) + i → 4800001 * H + e < A + d + 8 * L
            fit' P N p n s t d e w i a b o l m r = omega (arith, near', hx, h_small, L-H, L-pos)

    -- ---- the part of day k that has passed: 86401 times it is within 5663525977 h of 86400 times the days since its start
    product : Scaled (mul binary64 past seconds_per_day) since.p since.n 86400 1 1041
    product = mul_near 1041 (lit< tt) (lit≤ tt)
        (subst (λ (w : ℕ). since.p * 86400 < since.n * 86400 + w * 1) (sym days-20) (fit since.p since.n since.over))
        (subst (λ (w : ℕ). since.n * 86400 < since.p * 86400 + w * 1) (sym days-20) (fit' since.p since.n since.under)) since.val day-val
      where
        fit : (p n : ℕ) → 86400 * (p + (un + k * L)) + x ≤ 86400 * (n + (A + up + H)) + y + 5662656085 * h → p * 86400 < n * 86400 + 1048576 * L * 1
        fit p n i = omega (arith, near, hy, L-h, h_pos)

        fit' : (p n : ℕ) → 86400 * (n + (A + up + H)) + y ≤ 86400 * (p + (un + k * L)) + x + 5662656085 * h → n * 86400 < p * 86400 + 1048576 * L * 1
        fit' p n i = omega (arith, near', hx, L-h, h_pos)

    part : Scaled (div binary64 (mul binary64 past seconds_per_day) (add binary64 seconds_per_day one)) product.p product.n 1 86401 1024
    part = div_near 1024 86401 (lit< tt) (lit≤ tt)
        (subst (λ (w : ℕ). product.p < product.n + w * 86401) (sym days-3)
        (fit since.p since.n product.p product.n (2 ^ 1041) units-20 since.over product.over))
        (subst (λ (w : ℕ). product.n < product.p + w * 86401) (sym days-3)
        (fit' since.p since.n product.p product.n (2 ^ 1041) units-20 since.under product.under)) product.val long-val
      where
        fit : (p n s t w : ℕ) → w ≡ 1048576 * h → 86400 * (p + (un + k * L)) + x ≤ 86400 * (n + (A + up + H)) + y + 5662656085 * h
            → 2 * (1 * s + 86400 * n) ≤ 2 * (1 * t + 86400 * p) + 1 * w → s < t + 8 * L * 86401
        fit p n s t w e i j = omega (arith, near, hy, L-h, h_pos)

        fit' : (p n s t w : ℕ) → w ≡ 1048576 * h → 86400 * (n + (A + up + H)) + y ≤ 86400 * (p + (un + k * L)) + x + 5662656085 * h
            → 2 * (1 * t + 86400 * p) ≤ 2 * (1 * s + 86400 * n) + 1 * w → t < s + 8 * L * 86401
        fit' p n s t w e i j = omega (arith, near', hx, L-h, h_pos)

    abbrev fraction : Float
    fraction = div binary64 (mul binary64 past seconds_per_day) (add binary64 seconds_per_day one)

    abbrev fp : ℕ
    fp = part.p

    abbrev fn : ℕ
    fn = part.n

    f-over : 86401 * fp + 86400 * since.n ≤ 86401 * fn + 86400 * since.p + 869892 * h
    f-over = go since.p since.n product.p product.n fp fn (2 ^ 1041) (2 ^ 1024) units-20 units-3 product.over part.over
      where
        go : (p n s t f g w z : ℕ) → w ≡ 1048576 * h → z ≡ 8 * h → 2 * (1 * s + 86400 * n) ≤ 2 * (1 * t + 86400 * p) + 1 * w
            → 2 * (86401 * f + 1 * t) ≤ 2 * (86401 * g + 1 * s) + 86401 * z → 86401 * f + 86400 * n ≤ 86401 * g + 86400 * p + 869892 * h
        go p n s t f g w z a b i j = omega arith

    f_under : 86401 * fn + 86400 * since.p ≤ 86401 * fp + 86400 * since.n + 869892 * h
    f_under = go since.p since.n product.p product.n fp fn (2 ^ 1041) (2 ^ 1024) units-20 units-3 product.under part.under
      where
        go : (p n s t f g w z : ℕ) → w ≡ 1048576 * h → z ≡ 8 * h → 2 * (1 * t + 86400 * p) ≤ 2 * (1 * s + 86400 * n) + 1 * w
            → 2 * (86401 * g + 1 * s) ≤ 2 * (86401 * f + 1 * t) + 86401 * z → 86401 * g + 86400 * p ≤ 86401 * f + 86400 * n + 869892 * h
        go p n s t f g w z a b i j = omega arith

    -- ---- DUT1 with the part of the leap second that has passed
    abbrev pub QP : ℕ
    QP = 86400 * (A + up + H) + y

    abbrev pub QN : ℕ
    QN = 86400 * (un + k * L) + x

    pub record Adjusted (g : Float) : Type 0 where
      pub gp : ℕ
      pub gn : ℕ
      pub val : Val g gp gn L
      pub at_most : gp ≤ gn + 2 * L
      pub at_least : gn ≤ gp + 2 * L
      pub early : QP ≤ QN → (gp + y ≤ gn + x + 65551 * h) × (gn + x ≤ gp + y + 65551 * h)
      pub during : QN ≤ QP → QP ≤ QN + 86401 * L
          → (86401 * (gp + y) + QN ≤ 86401 * (gn + x) + QP + 86401 * (65551 * h)) × (86401 * (gn + x) + QP ≤ 86401 * (gp + y) + QN + 86401 * (65551 * h))
      pub late : QN + 86401 * L ≤ QP → (gp + y ≤ gn + x + L + 65551 * h) × (gn + x + L ≤ gp + y + 65551 * h)

    pub adjusted : Adjusted (after_step past one b)
    unfolding after_step at_most_one
    adjusted = go (lt nought past) refl
      where
        -- not yet
        none : (P N p n : ℕ) → p ≤ n → 86400 * (n + P) + y ≤ 86400 * (p + N) + x + 5662656085 * h → 86400 * P + y ≤ 86400 * N + x + 5662656085 * h
        none P N p n i j = omega arith

        before : since.p ≤ since.n → Adjusted b
        before i =
            let e : QP ≤ QN + 5662656085 * h = none (A + up + H) (un + k * L) since.p since.n i since.under in
            record {
              gp = x;
              gn = y;
              val = vb;
              at_most = omega (arith, hx, h_small);
              at_least = omega (arith, hy, h_small);
              early = λ j. (omega arith, omega arith);
              during = λ j l. (first QP QN j, second QP QN e);
              late = λ j. absurd (never QP QN e j);
            }
          where
            first : (P N : ℕ) → N ≤ P → 86401 * (x + y) + N ≤ 86401 * (y + x) + P + 86401 * (65551 * h)
            first P N j = omega arith

            second : (P N : ℕ) → P ≤ N + 5662656085 * h → 86401 * (y + x) + P ≤ 86401 * (x + y) + N + 86401 * (65551 * h)
            second P N j = omega arith

            never : (P N : ℕ) → P ≤ N + 5662656085 * h → N + 86401 * L ≤ P → ⊥
            never P N i j = omega (arith, L-h, h_pos)

        -- f = (p - n) / L of the leap second, at most 1, is added
        plus : (c : Float) (p n : ℕ) → T (fits binary64 c) → Val c p n L → n ≤ p + 11 * h → p ≤ n + L
            → (QP ≤ QN → p ≤ n + 65550 * h)
            → (QN ≤ QP → QP ≤ QN + 86401 * L → (86401 * p + QN ≤ 86401 * n + QP + 86401 * (65550 * h)) ×
            (86401 * n + QP ≤ 86401 * p + QN + 86401 * (65550 * h)))
            → (QN + 86401 * L ≤ QP → n + L ≤ p + 65550 * h) → Adjusted (add binary64 b (mul binary64 one c))
        plus c p n fc vc bottom top e d l =
            let m = again fc vc (one-times vc) in
            let r = add_close (omega (arith, hx, h_small, L-pos)) (omega (arith, hy, h_small, L-pos)) vb m in
            record {
              gp = r.p;
              gn = r.n;
              val = r.val;
              at_most = omega (arith, r.over, hx, top, h_small);
              at_least = omega (arith, r.under, hy, bottom, h_small);
              early = λ j. let i = e j in (omega (arith, r.over), omega (arith, r.under, bottom));
              during = λ j o. let i = d j o in (first r.p r.n QP QN r.over i.0, second r.p r.n QP QN r.under i.1);
              late = λ j. let i = l j in (omega (arith, r.over, top), omega (arith, r.under));
            }
          where
            first : (g o P N : ℕ) → g + (y + n) ≤ o + (x + p) + h → 86401 * p + N ≤ 86401 * n + P + 86401 * (65550 * h)
                → 86401 * (g + y) + N ≤ 86401 * (o + x) + P + 86401 * (65551 * h)
            first g o P N i j = omega arith

            second : (g o P N : ℕ) → o + (x + p) ≤ g + (y + n) + h → 86401 * n + P ≤ 86401 * p + N + 86401 * (65550 * h)
                → 86401 * (o + x) + P ≤ 86401 * (g + y) + N + 86401 * (65551 * h)
            second g o P N i j = omega arith

        total-over : (P N p n f g : ℕ) → 86401 * f + 86400 * n ≤ 86401 * g + 86400 * p + 869892 * h → 86400 * (p + N) + x ≤ 86400 * (n + P) + y + 5662656085 * h
            → 86401 * f + (86400 * N + x) ≤ 86401 * g + (86400 * P + y) + 5663525977 * h
        total-over P N p n f g i j = omega arith

        total-under : (P N p n f g : ℕ) → 86401 * g + 86400 * p ≤ 86401 * f + 86400 * n + 869892 * h
            → 86400 * (n + P) + y ≤ 86400 * (p + N) + x + 5662656085 * h
            → 86401 * g + (86400 * P + y) ≤ 86401 * f + (86400 * N + x) + 5663525977 * h
        total-under P N p n f g i j = omega arith

        all-over : 86401 * fp + QN ≤ 86401 * fn + QP + 5663525977 * h
        all-over = total-over (A + up + H) (un + k * L) since.p since.n fp fn f-over since.over

        all_under : 86401 * fn + QP ≤ 86401 * fp + QN + 5663525977 * h
        all_under = total-under (A + up + H) (un + k * L) since.p since.n fp fn f_under since.under

        after : (since.n < since.p) → (c : Bool) → lt fraction one ≡ c → Adjusted (add binary64 b (mul binary64 one (cond c fraction one)))
        after i true t =
            let m = lt_true L-pos part.val one-L t in
            plus fraction fp fn (div-fits binary64 _ _) part.val (some since.p since.n fp fn i f_under) (omega (arith, m))
            (λ j. first QP QN fp fn j all-over) (λ j o. (second QP QN fp fn all-over, second' QP QN fp fn all_under)) (λ j. third QP QN fp fn j all_under)
          where
            some : (p n f g : ℕ) → n < p → 86401 * g + 86400 * p ≤ 86401 * f + 86400 * n + 869892 * h → g ≤ f + 11 * h
            some p n f g i j = omega arith

            first : (P N f g : ℕ) → P ≤ N → 86401 * f + N ≤ 86401 * g + P + 5663525977 * h → f ≤ g + 65550 * h
            first P N f g i j = omega arith

            second : (P N f g : ℕ) → 86401 * f + N ≤ 86401 * g + P + 5663525977 * h → 86401 * f + N ≤ 86401 * g + P + 86401 * (65550 * h)
            second P N f g i = omega arith

            second' : (P N f g : ℕ) → 86401 * g + P ≤ 86401 * f + N + 5663525977 * h → 86401 * g + P ≤ 86401 * f + N + 86401 * (65550 * h)
            second' P N f g i = omega arith

            third : (P N f g : ℕ) → N + 86401 * L ≤ P → 86401 * g + P ≤ 86401 * f + N + 5663525977 * h → g + L ≤ f + 65550 * h
            third P N f g i j = omega arith
        after i false t =
            let m = lt_false L-pos part.val one-L t in
            plus one L 0 one-fits one-L (omega (arith, L-pos)) (omega arith) (λ j. absurd (first QP QN fp fn j (omega (arith, m)) all-over))
            (λ j o. (second QP QN fp fn (omega (arith, m)) all-over, second' QP QN o)) (λ j. omega arith)
          where
            first : (P N f g : ℕ) → P ≤ N → g + L ≤ f → 86401 * f + N ≤ 86401 * g + P + 5663525977 * h → ⊥
            first P N f g i j l = omega (arith, L-h, h_pos)

            second : (P N f g : ℕ) → g + L ≤ f → 86401 * f + N ≤ 86401 * g + P + 5663525977 * h → 86401 * L + N ≤ 86401 * 0 + P + 86401 * (65550 * h)
            second P N f g i j = omega arith

            second' : (P N : ℕ) → P ≤ N + 86401 * L → 86401 * 0 + P ≤ 86401 * L + N + 86401 * (65550 * h)
            second' P N i = omega arith

        go : (c : Bool) → lt nought past ≡ c → Adjusted (cond c (add binary64 b (mul binary64 one (cond (lt fraction one) fraction one))) b)
        go true t = after (omega (arith, lt_true L-pos nought-L since.val t)) (lt fraction one) refl
        go false t = before (omega (arith, lt_false L-pos nought-L since.val t))
