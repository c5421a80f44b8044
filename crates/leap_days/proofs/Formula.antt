-- THE DRIFT FORMULA: on every date of 1960 to 1971, and at every fraction of the day, the offset is within 10^-12 s of the table's formula taken exactly,
-- units 10^-7 s + (MJD + fraction - start) rate 10^-10 s. Assumes nothing.
use mathlib.Core.Path.{◌≡◌, refl, ap, sym, subst, ◌∙◌}
use mathlib.Core.Bool.{Bool, true, false, cond}
use Prim.Native.Nat.{ℕ, ◌+◌, ◌-◌, ◌*◌, ◌^◌, ◌≤◌, ◌<◌}
use native.Mathlib.Omega.{arith}
use native.Mathlib.Nat.{le_trans, le_of_eq, le_of_lt, mul-pos, le_of_mul-le-mul_right, mul-le-mul_right, mul-lt-mul_of_pos_right, mul_comm, mul_assoc}
use native.Mathlib.Nat.{mul_left_comm, mul_right_comm, one-mul, zero-mul, add-zero, zero-add, add-mul}
use lib.Pow.{pow_pos}
use lib.Dec.{T, leb, ltb, leb→le, ltb→lt}
use lib.ListN.{get_or, take}
use lib.Seq.{get_or-take}
use lib.IntN.{ℤ, pos, nat_abs}
use lib.Ieee.{Float, nan, inf, fin, binary64, up, down, round, add, sub, mul, of_int, le, fits}
use lib.Ieee.Fits.{and_l, and_r}
use lib.Ieee.Scale.{finite}
use borrow.Author.Tests.{leb-true}
use Rattle.refusals.specs.Outcome.{answer}
use Rattle.floats.specs.Whole.{nought, one}
use Rattle.calendar.specs.Calendar.{leap_year}
use Rattle.calendar.specs.DayCount.{march_count, civil_count, mjd_number, mjd_of}
use Rattle.calendar.proofs.Signs.{sub_at}
use Rattle.calendar.proofs.Accepted.{Accepted, date-accepted, short}
use Rattle.calendar.proofs.Mjd.{mjd-given, mjd-valid, same_answer}
use Rattle.rounding.specs.Value.{Val, L}
use Rattle.rounding.proofs.Value.{L-pos}
use Rattle.rounding.proofs.Own.{own, own_val}
use Rattle.rounding.proofs.Range.{power-val}
use Rattle.rounding.proofs.Compare.{le_val}
use Rattle.rounding.proofs.Near.{rounds-near}
use Rattle.rounding.proofs.About.{U, U_pos, L-U, unit, room, About, about_own, about_scale, about_add, about_sub, about_mul}
use Rattle.leap_table.specs.rows.Table.{Row, fixed, starts, reached, month_of, month_number, none}
use Rattle.leap_table.specs.offsets.Offset.{seconds_of, start_of, rate_of, offset_by, offset_at, in_day, tai_utc_offset, row_at}
use Rattle.leap_table.proofs.rows.Rows.{at}
use Rattle.leap_table.proofs.offsets.At.{drifting}
use Rattle.leap_table.proofs.offsets.Years.{one-row, drift-rows}
use Rattle.leap_table.proofs.offsets.Offsets.{offset-came, offset-in-day}
use Rattle.leap_days.proofs.drift.Tests.{then, then_left, then_right}
use Rattle.leap_days.specs.Formula.{NearFormula}

-- ---- the float nearest to n / d is within 2 ^ i units of 2 ^ -90 of it, where it is below 2 ^ (54 + i) of them
about_decimal : (i n d M : ℕ) → 0 < d → 985 + i ≤ 2044 → n * 2 ^ 90 < 2 ^ (54 + i) * d → n * 2 ^ 90 ≤ M * d → About (round binary64 false n d) n 0 d M (2 ^ i)
about_decimal i n d M pd hi h k =
    let z = rounds-near (985 + i) pd hi high-room low-room (record { sign = false; size = n; eq = refl; is = add-zero n }) in
    record {
      p = z.p;
      n = z.n;
      val = z.val;
      over = halved (z.p * d + 0 * L) (z.n * d + n * L) z.over;
      under = halved (z.n * d + n * L) (z.p * d + 0 * L) z.under;
      high = size;
      low = omega (arith, zero-mul L);
      some = pd;
    }
  where
    in_units : n * L ≡ n * 2 ^ 90 * U
    in_units = ap (λ (x : ℕ). n * x) L-U ∙ sym (mul_assoc n (2 ^ 90) U)

    wide : n * L < 2 ^ (53 + (985 + i)) * d
    wide =
        subst (λ (x : ℕ). x < 2 ^ (53 + (985 + i)) * d) (sym in_units)
        (subst (λ (x : ℕ). n * 2 ^ 90 * U < x) (mul_right_comm (2 ^ (54 + i)) d U ∙ ap (λ (x : ℕ). x * d) (sym (room i))) (mul-lt-mul_of_pos_right h U_pos))

    high-room : n * L < 0 * L + 2 ^ (53 + (985 + i)) * d
    high-room = omega (arith, wide, zero-mul L)

    low-room : 0 * L < n * L + 2 ^ (53 + (985 + i)) * d
    low-room = omega (arith, wide, zero-mul L)

    size : n * L ≤ 0 * L + M * (U * d)
    size =
        let g : n * L ≤ M * (U * d) = le_trans (le_of_eq in_units)
        (le_trans (mul-le-mul_right U k) (le_of_eq (mul_assoc M d U ∙ ap (λ (x : ℕ). M * x) (mul_comm d U)))) in
        omega (arith, g)

    halved : (a b : ℕ) → 2 * a ≤ 2 * b + d * 2 ^ (985 + i) → a ≤ b + 2 ^ i * (U * d)
    halved a b g =
        let e : d * 2 ^ (985 + i) ≡ 2 * (2 ^ i * (U * d)) = ap (λ (x : ℕ). d * x) (unit i) ∙ mul_left_comm d 2 (2 ^ i * U)
        ∙ ap (λ (x : ℕ). 2 * x) (mul_comm d (2 ^ i * U) ∙ mul_assoc (2 ^ i) U d) in
        omega (arith, g, e)

-- ---- the fraction f = (q - m) / L
record Fraction (f : Float) : Type 0 where
  q : ℕ
  m : ℕ
  val : Val f q m L
  high : q ≤ m + L
  low : m ≤ q

-- a fraction that is taken is finite: the look-up refuses a NaN and an infinity with 7
pub in_day_finite : (f : Float) → T (in_day f) → T (finite f)
unfolding in_day le
in_day_finite nan t = absurd t
in_day_finite (inf true) t = absurd t
in_day_finite (inf false) t = absurd t
in_day_finite (fin s m x) t = tt

zero_val : Val nought 0 0 L
zero_val = record { sign = false; size = 0; has = (refl, zero-mul L); is = refl }

fraction : (f : Float) → T (fits binary64 f) → T (in_day f) → Fraction f
unfolding in_day
fraction f g t = go _ _ (own_val f (own f g (in_day_finite f t)))
  where
    lower : T (le nought f)
    lower = and_l (le nought f) (le f one) t

    upper : T (le f one)
    upper = and_r (le nought f) (le f one) t

    go : (q m : ℕ) → Val f q m L → Fraction f
    go q m v =
        let a : 0 + m ≤ q + 0 = leb→le (0 + m) (q + 0) (subst T (le_val L-pos zero_val v) lower) in
        let b : q + 0 ≤ 2 ^ 0 * L + m = leb→le (q + 0) (2 ^ 0 * L + m) (subst T (le_val L-pos v (power-val 0 L)) upper) in
        record { q = q; m = m; val = v; high = omega (arith, b); low = omega (arith, a) }

about_fraction : (f : Float) (g : Fraction f) → About f g.q g.m L (2 ^ 90) 0
about_fraction f g = about_own (2 ^ 90) (subst (λ (x : ℕ). g.q ≤ g.m + x) L-U g.high) (omega (arith, g.low)) g.val

-- ---- what is computed of the rows that drift: their floats' distances from the decimals, and room for each rounding
abbrev plain : Float → Bool
plain nan = false
plain (inf s) = false
plain (fin true m e) = false
plain (fin false m e) = true

abbrev top : Float → ℕ
top nan = 0
top (inf s) = 0
top (fin s m e) = m * up e

abbrev bottom : Float → ℕ
bottom nan = 1
bottom (inf s) = 1
bottom (fin s m e) = down e

plain-val : (y : Float) → T (plain y) → Val y (top y) 0 (bottom y)
plain-val nan t = absurd t
plain-val (inf s) t = absurd t
plain-val (fin true m e) t = absurd t
plain-val (fin false m e) t = record { sign = false; size = m * up e; has = (refl, refl); is = add-zero (m * up e) }

-- sizes and errors in units of 2 ^ -90: of MJD + fraction - start, and of its product with the rate
abbrev M2 : ℕ
M2 = 2 ^ 106 + 2 ^ 90 + 2 ^ 106

abbrev e2 : ℕ
e2 = 2 ^ 52 + 0 + 2 ^ 53 + 2 ^ 52 + 2 ^ 54

abbrev C : ℕ
C = 10000000000

unfoldable rate_test : ℕ → Float → Bool
rate_test rate y =
    then (plain y)
    (then (ltb 0 (bottom y))
    (then (leb (top y * C) (rate * bottom y + C))
    (then (leb (rate * bottom y) (top y * C + C))
    (then (leb (M2 * rate) (2 ^ 99 * C))
    (then (ltb ((M2 + e2) * top y) (2 ^ (54 + 45) * bottom y))
    (leb (e2 * (top y * C) + C * M2 + 2 ^ 45 * (bottom y * C)) (2 ^ 48 * (bottom y * C))))))))

unfoldable row_test : Row → Bool
unfolding rate_test rate_of round
row_test r = then (ltb r.start 65536) (then (ltb r.units 80000000) (rate_test r.rate (rate_of r)))

row-tested : (k : ℕ) → k < 14 → T (row_test (get_or fixed k none))
unfolding fixed row_test
row-tested k h = subst (λ (r : Row). T (row_test r)) (get_or-take 14 fixed k none h) (at (λ i r. row_test r) (take 14 fixed) tt k h)

-- ---- through the operations
module _ (r : Row) (t : T (row_test r)) (j : ℕ) (hj : j < 65536) (f : Float) (g : Fraction f) where
  small_start : r.start < 65536
  unfolding row_test
  small_start = ltb→lt r.start 65536 (then_left (ltb r.start 65536) (then (ltb r.units 80000000) (rate_test r.rate (rate_of r))) t)

  rest : T (then (ltb r.units 80000000) (rate_test r.rate (rate_of r)))
  unfolding row_test
  rest = then_right (ltb r.start 65536) (then (ltb r.units 80000000) (rate_test r.rate (rate_of r))) t

  small_units : r.units < 80000000
  small_units = ltb→lt r.units 80000000 (then_left (ltb r.units 80000000) (rate_test r.rate (rate_of r)) rest)

  rate-tested : T (rate_test r.rate (rate_of r))
  rate-tested = then_right (ltb r.units 80000000) (rate_test r.rate (rate_of r)) rest

  whole-days : (n : ℕ) → n < 65536 → About (round binary64 false n 1) (n * L) (0 * L) L (2 ^ 106) (2 ^ 52)
  whole-days n h =
      subst (λ (d : ℕ). About (round binary64 false n 1) (n * L) (0 * L) d (2 ^ 106) (2 ^ 52)) (one-mul L)
      (about_scale L L-pos (about_decimal 52 n 1 (2 ^ 106) (omega arith) (omega arith) (below n h) (le_of_lt (below n h))))
    where
      below : (k : ℕ) → k < 65536 → k * 2 ^ 90 < 2 ^ 106 * 1
      below k l = mul-lt-mul_of_pos_right {k = 2 ^ 90} l (pow_pos 90)

  moment : About (add binary64 (of_int binary64 (pos j)) f) (j * L + g.q) (0 * L + g.m) L (2 ^ 106 + 2 ^ 90) (2 ^ 52 + 0 + 2 ^ 53)
  unfolding of_int
  moment = about_add 53 (omega arith) (ltb→lt (2 ^ 106 + 2 ^ 90 + (2 ^ 52 + 0)) (2 ^ (54 + 53)) tt) (whole-days j hj) (about_fraction f g)

  since-start : About (sub binary64 (add binary64 (of_int binary64 (pos j)) f) (start_of r)) (j * L + g.q + 0 * L) (0 * L + g.m + r.start * L) L M2 e2
  unfolding start_of
  since-start = about_sub 54 (omega arith) (ltb→lt (2 ^ 106 + 2 ^ 90 + 2 ^ 106 + (2 ^ 52 + 0 + 2 ^ 53 + 2 ^ 52)) (2 ^ (54 + 54)) tt) moment
      (whole-days r.start small_start)

  drift : About (mul binary64 (sub binary64 (add binary64 (of_int binary64 (pos j)) f) (start_of r)) (rate_of r)) ((j * L + g.q + 0 * L) * r.rate)
      ((0 * L + g.m + r.start * L) * r.rate) (L * C) (2 ^ 99) (2 ^ 48)
  unfolding rate_test
  drift =
      let y = rate_of r in
      let t1 = rate-tested in
      let t2 = then_right (plain y) _ t1 in
      let t3 = then_right (ltb 0 (bottom y)) _ t2 in
      let t4 = then_right (leb (top y * C) (r.rate * bottom y + C)) _ t3 in
      let t5 = then_right (leb (r.rate * bottom y) (top y * C + C)) _ t4 in
      let t6 = then_right (leb (M2 * r.rate) (2 ^ 99 * C)) _ t5 in
      let t7 = then_right (ltb ((M2 + e2) * top y) (2 ^ (54 + 45) * bottom y)) _ t6 in
      about_mul 45 r.rate (top y) C (bottom y) C (2 ^ 99) (2 ^ 48) (omega arith)
      (ltb→lt 0 (bottom y) (then_left (ltb 0 (bottom y)) _ t2)) (omega arith)
      (leb→le (top y * C) (r.rate * bottom y + C) (then_left (leb (top y * C) (r.rate * bottom y + C)) _ t3))
      (leb→le (r.rate * bottom y) (top y * C + C) (then_left (leb (r.rate * bottom y) (top y * C + C)) _ t4))
      (leb→le (M2 * r.rate) (2 ^ 99 * C) (then_left (leb (M2 * r.rate) (2 ^ 99 * C)) _ t5))
      (ltb→lt ((M2 + e2) * top y) (2 ^ (54 + 45) * bottom y) (then_left (ltb ((M2 + e2) * top y) (2 ^ (54 + 45) * bottom y)) _ t6))
      (leb→le (e2 * (top y * C) + C * M2 + 2 ^ 45 * (bottom y * C)) (2 ^ 48 * (bottom y * C)) t7)
      (plain-val y (then_left (plain y) _ t1)) since-start

  seconds : About (seconds_of r) (r.units * (1000 * L)) (0 * (1000 * L)) (L * C) (2 ^ 93) (2 ^ 39)
  unfolding seconds_of
  seconds =
      subst (λ (d : ℕ). About (round binary64 false r.units 10000000) (r.units * (1000 * L)) (0 * (1000 * L)) d (2 ^ 93) (2 ^ 39))
      (sym (mul_assoc 10000000 1000 L) ∙ mul_comm 10000000000 L)
      (about_scale (1000 * L) (mul-pos (omega arith) L-pos) (about_decimal 39 r.units 10000000 (2 ^ 93) (omega arith) (omega arith) below (le_of_lt below)))
    where
      below : r.units * 2 ^ 90 < 2 ^ (54 + 39) * 10000000
      below = mul-lt-mul_of_pos_right {k = 2 ^ 90} small_units (pow_pos 90)

  abbrev X : Float
  X = add binary64 (seconds_of r) (mul binary64 (sub binary64 (add binary64 (of_int binary64 (pos j)) f) (start_of r)) (rate_of r))

  whole : About X (r.units * (1000 * L) + (j * L + g.q + 0 * L) * r.rate) (0 * (1000 * L) + (0 * L + g.m + r.start * L) * r.rate) (L * C)
      (2 ^ 93 + 2 ^ 99) (2 ^ 39 + 2 ^ 48 + 2 ^ 46)
  whole = about_add 46 (omega arith) (ltb→lt (2 ^ 93 + 2 ^ 99 + (2 ^ 39 + 2 ^ 48)) (2 ^ (54 + 46)) tt) seconds drift

-- ---- what it says: with f = (q - m) / L and x = (p - n) / L, the difference of x and the formula times 10^10 L is at most 10^-12 times 10^10 L
abbrev E4 : ℕ
E4 = 2 ^ 39 + 2 ^ 48 + 2 ^ 46

-- the error in seconds, over L and C
picosecond : (a b A B : ℕ) → a * (L * C) + A * L ≤ b * (L * C) + B * L + E4 * (U * (L * C)) → 10 ^ 12 * (a * C + A) ≤ 10 ^ 12 * (b * C + B) + C * L
picosecond a b A B h = go (a * C + A) (b * C + B) (E4 * U * C) (C * L) cancelled room-left
  where
    side : (k N : ℕ) → k * (L * C) + N * L ≡ (k * C + N) * L
    side k N = sym (add-mul (k * C) N L ∙ ap (λ (z : ℕ). z + N * L) (mul_assoc k C L ∙ ap (λ (z : ℕ). k * z) (mul_comm C L)))

    error : E4 * (U * (L * C)) ≡ E4 * U * C * L
    error = ap (λ (z : ℕ). E4 * (U * z)) (mul_comm L C) ∙ ap (λ (z : ℕ). E4 * z) (sym (mul_assoc U C L)) ∙ sym (mul_assoc E4 (U * C) L)
        ∙ ap (λ (z : ℕ). z * L) (sym (mul_assoc E4 U C))

    cancelled : a * C + A ≤ b * C + B + E4 * U * C
    cancelled =
        le_of_mul-le-mul_right {k = L}
        (le_trans (le_of_eq (sym (side a A)))
        (le_trans h (le_of_eq (ap (λ (z : ℕ). z + E4 * (U * (L * C))) (side b B) ∙ ap (λ (z : ℕ). (b * C + B) * L + z) error
        ∙ sym (add-mul (b * C + B) (E4 * U * C) L)))))
        L-pos

    room-left : 10 ^ 12 * (E4 * U * C) ≤ C * L
    room-left =
        le_trans (le_of_eq (ap (λ (z : ℕ). 10 ^ 12 * z) (mul_assoc E4 U C) ∙ sym (mul_assoc (10 ^ 12) E4 (U * C))))
        (le_trans (mul-le-mul_right (U * C) (leb→le (10 ^ 12 * E4) (2 ^ 90) tt))
        (le_of_eq (sym (mul_assoc (2 ^ 90) U C) ∙ ap (λ (z : ℕ). z * C) (sym L-U) ∙ mul_comm L C)))

    go : (x y z v : ℕ) → x ≤ y + z → 10 ^ 12 * z ≤ v → 10 ^ 12 * x ≤ 10 ^ 12 * y + v
    go x y z v k l = omega arith

moved : (p n N N' P P' : ℕ) → N ≡ N' → P ≡ P' → 10 ^ 12 * (p * C + N) ≤ 10 ^ 12 * (n * C + P) + C * L → 10 ^ 12 * (p * C + N') ≤ 10 ^ 12 * (n * C + P') + C * L
moved p n N N' P P' e g h = omega arith

near-formula : (r : Row) → T (row_test r) → (j : ℕ) → j < 65536 → (f : Float) → Fraction f
    → NearFormula r j f (add binary64 (seconds_of r) (mul binary64 (sub binary64 (add binary64 (of_int binary64 (pos j)) f) (start_of r)) (rate_of r)))
near-formula r t j h f g = go (whole r t j h f g)
  where
    above : r.units * (1000 * L) + (j * L + g.q + 0 * L) * r.rate ≡ r.units * (1000 * L) + (j * L + g.q) * r.rate
    above = ap (λ (z : ℕ). r.units * (1000 * L) + (j * L + g.q + z) * r.rate) (zero-mul L)
        ∙ ap (λ (z : ℕ). r.units * (1000 * L) + z * r.rate) (add-zero (j * L + g.q))

    below : 0 * (1000 * L) + (0 * L + g.m + r.start * L) * r.rate ≡ (g.m + r.start * L) * r.rate
    below =
        ap (λ (z : ℕ). z + (0 * L + g.m + r.start * L) * r.rate) (zero-mul (1000 * L))
        ∙ zero-add ((0 * L + g.m + r.start * L) * r.rate)
        ∙ ap (λ (z : ℕ). (z + g.m + r.start * L) * r.rate) (zero-mul L)
        ∙ ap (λ (z : ℕ). (z + r.start * L) * r.rate) (zero-add g.m)

    go : {x : Float} → About x (r.units * (1000 * L) + (j * L + g.q + 0 * L) * r.rate) (0 * (1000 * L) + (0 * L + g.m + r.start * L) * r.rate) (L * C)
        (2 ^ 93 + 2 ^ 99) (2 ^ 39 + 2 ^ 48 + 2 ^ 46) → NearFormula r j f x
    go a =
        record {
          q = g.q;
          m = g.m;
          fraction = g.val;
          p = a.p;
          n = a.n;
          offset = a.val;
          over = moved a.p a.n _ _ _ _ below above (picosecond a.p a.n _ _ a.over);
          under = moved a.n a.p _ _ _ _ above below (picosecond a.n a.p _ _ a.under);
        }

-- ---- THE LAW, by dates: the MJD of a date of 1960 to 1971 is from 36,000 to 42,000
march_range : (y m d : ℕ) → 6759 ≤ y → y ≤ 6771 → m ≤ 12 → d ≤ 31 → (2432076 ≤ march_count y m d) × (march_count y m d < 2497612)
march_range y m d l h k g = (omega arith, omega arith)

civil_range : (y m d : ℕ) → 6760 ≤ y → y ≤ 6771 → m ≤ 12 → d ≤ 31 → (2432076 ≤ civil_count y m d) × (civil_count y m d < 2497612)
unfolding civil_count
civil_range y m d l h k g = go (leb m 2) refl
  where
    go : (b : Bool) → leb m 2 ≡ b → (2432076 ≤ cond b (march_count (y - 1) (m + 10) d) (march_count y (m - 2) d))
        × (cond b (march_count (y - 1) (m + 10) d) (march_count y (m - 2) d) < 2497612)
    go true e = march_range (y - 1) (m + 10) d (omega arith) (omega arith) (omega (arith, leb-true m 2 e)) g
    go false e = march_range y (m - 2) d (omega arith) h (omega arith) g

mjd-range : (y : ℕ) (m d : ℤ) → 1960 ≤ y → y ≤ 1971 → Accepted (pos y) m d → (j : ℕ) × (mjd_number (pos y) m d ≡ pos j) × (j < 65536)
unfolding mjd_number
mjd-range y m d l h a =
    let c = civil_count (y + 4800) (nat_abs m) (nat_abs d) in
    let r = civil_range (y + 4800) (nat_abs m) (nat_abs d) (omega arith) (omega arith) a.m_high
    (omega (arith, a.d_high, short (leap_year (pos y)) (nat_abs m) a.m_low a.m_high)) in
    (c - 2432076, sub_at c 2432076 r.0, omega (arith, r.0, r.1))

pub drift-formula : (y : ℕ) (m d : ℤ) (f x : Float) → 1960 ≤ y → y ≤ 1971 → T (fits binary64 f) → tai_utc_offset fixed (pos y) m d f ≡ answer x → (j : ℕ)
    × (mjd_of (pos y) m d ≡ answer (pos j)) × NearFormula (row_at (reached (starts fixed) (month_of y (nat_abs m)))) j f x
unfolding month_number offset_at
drift-formula y m d f x l h g e =
    let (n, p, q) = offset-came fixed (pos y) m d f x e in
    let v = mjd-valid (pos y) m d n p in
    let a = date-accepted (pos y) m d v in
    let (j, s, b) = mjd-range y m d l h a in
    let i : n ≡ pos j = same_answer (sym p ∙ mjd-given (pos y) m d v) ∙ s in
    let N = month_of y (nat_abs m) in
    let k = reached (starts fixed) N in
    let o = one-row N (omega (arith, a.m_low)) in
    let w = drift-rows N (omega (arith, a.m_high)) in
    let z =
    drifting k (of_int binary64 (pos j)) f o (omega (arith, o, w)) (seconds_of (row_at k)) (start_of (row_at k)) (rate_of (row_at k)) refl refl refl in (
      j,
      p ∙ ap answer i,
      subst (λ (t : Float). NearFormula (row_at k) j f t) (z ∙ sym (q ∙ ap (λ (t : ℤ). offset_by fixed k (of_int binary64 t) f) i))
          (near-formula (row_at k) (row-tested (k - 1) (omega (arith, o, w))) j b f (fraction f g (subst T (sym (offset-in-day fixed (pos y) m d f x e)) tt))),
    )
