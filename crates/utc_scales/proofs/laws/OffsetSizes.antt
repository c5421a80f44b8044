-- TAI-UTC by every table that is taken is at most 2 ^ 11 s in size at every date, so that what the conversions compute of it is of moderate size. Assumes
-- nothing.
use mathlib.Core.Path.{◌≡◌, refl, ap, sym, subst, ◌∙◌}
use mathlib.Core.Bool.{Bool, true, false, cond, ◌&&◌}
use mathlib.Core.List.{List}
use Prim.Native.Nat.{ℕ, suc, ◌+◌, ◌-◌, ◌*◌, ◌^◌, ◌≤◌, ◌<◌}
use native.Mathlib.Nat.{le_trans, le_of_eq, mul-le-mul_right, zero-mul}
use native.Mathlib.Omega.{arith}
use lib.Dec.{T, ltb, leb, leb→le, lit≤, lit<}
use lib.ListN.{get_or}
use lib.IntN.{ℤ, pos, negsuc, nat_abs, sub_ℕ, ◌+ℤ◌}
use lib.Ieee.{Float, binary64, of_int, round, add, sub, mul}
use borrow.Author.Tests.{leb-true, leb-false}
use Rattle.refusals.specs.Outcome.{answer}
use Rattle.floats.specs.Whole.{nought, half}
use Rattle.rounding.specs.Value.{Val, L}
use Rattle.rounding.proofs.Value.{L-is, L-pos, val-move}
use Rattle.rounding.proofs.Own.{Rep}
use Rattle.rounding.proofs.Bound.{SizeWithin, rounds-within}
use Rattle.rounding.proofs.Near.{NearSum, add_near}
use Rattle.rounding.proofs.Casts.{plus_z, minus_z}
use Rattle.rounding.proofs.Sizes.{Size, size-add, size-sub, mul_small, decimal-size, int_size, whole_val, Above}
use Rattle.constants.specs.Constants.{seconds_per_day, mjd_zero_point}
use Rattle.calendar.specs.Calendar.{leap_year}
use Rattle.calendar.specs.Refusals.{next_of}
use Rattle.calendar.specs.DayCount.{march_count, civil_count, mjd_number, mjd_of}
use Rattle.calendar.proofs.Accepted.{date-accepted, short}
use Rattle.calendar.proofs.Mjd.{mjd-given, mjd-valid, same_answer}
use Rattle.leap_table.specs.declared.offsets.DayOffsets.{DayOffsets}
use Rattle.leap_table.specs.declared.rows.AnnouncedRows.{AnnouncedRows}
use Rattle.leap_table.specs.rows.Table.{Row, fixed, starts, reached, month_number, none}
use Rattle.leap_table.specs.rows.Announced.{table_of}
use Rattle.leap_table.specs.offsets.Offset.{seconds_of, start_of, rate_of, offset_at, tai_utc_offset, row_at, seconds_in}
use Rattle.leap_table.specs.offsets.Leap.{offsets, day_offsets}
use Rattle.leap_table.proofs.rows.Rows.{fixed-length, every, at}
use Rattle.leap_table.proofs.offsets.At.{drifting}
use Rattle.leap_table.proofs.offsets.Offsets.{offset-came}
use Rattle.leap_table.proofs.offsets.Years.{before_1960, one-row, drift-rows}
use Rattle.leap_table.proofs.offsets.TableSeconds.{seconds-in-range, table-seconds, same-before-announced}
use Rattle.refusals.proofs.Onward.{came}

-- ---- the decimals of a row: at most 64 s, MJD 65536 and 2 ^ -8 s a day
slow : ℕ → Row → Bool
slow k r = leb r.units 640000000 && (leb r.start 65536 && leb r.rate 39062500)

record Slow (r : Row) : Type 0 where
  units : r.units ≤ 640000000
  start : r.start ≤ 65536
  rate : r.rate ≤ 39062500

all_three : (a b c : Bool) → T (a && (b && c)) → T a × T b × T c
all_three true true true h = (tt, tt, tt)
all_three true true false h = absurd h
all_three true false c h = absurd h
all_three false b c h = absurd h

every_row : T (every slow 0 fixed)
unfolding fixed slow
every_row = tt

slow_row : (i : ℕ) → i < 14 → Slow (get_or fixed i none)
unfolding slow
slow_row i h =
    let r = get_or fixed i none in
    let k = all_three (leb r.units 640000000) (leb r.start 65536) (leb r.rate 39062500) (at slow fixed every_row i (omega (arith, fixed-length))) in
    record { units = leb→le r.units 640000000 k.0; start = leb→le r.start 65536 k.1; rate = leb→le r.rate 39062500 k.2 }

-- 2 ^ -8, in units
unfoldable B : ℕ
B = 2 ^ 1066

B-L : B * 2 ^ 8 ≡ L
unfolding B
B-L = sym L-is

B-rep : Rep B
unfolding B
B-rep = record { q = 1; j = 1066; is = refl; small = lit< tt }

B-small : B < 2 ^ 2098
unfolding B
B-small = lit< tt

rate-within : (n : ℕ) → n ≤ 39062500 → SizeWithin (round binary64 false n 10000000000) B
rate-within n h =
    rounds-within {N = 0} (lit< tt) B-rep B-small (subst (λ (l : ℕ). n * l ≤ 0 * l + B * 10000000000) B-L (wide B n h)) (none_over B n)
    (record { sign = false; size = n; eq = refl; is = omega arith })
  where
    wide : (b n : ℕ) → n ≤ 39062500 → n * (b * 2 ^ 8) ≤ 0 * (b * 2 ^ 8) + b * 10000000000
    wide b n h = le_trans (mul-le-mul_right (b * 2 ^ 8) h) (omega arith)

    none_over : (b n : ℕ) → 0 * L ≤ n * L + b * 10000000000
    none_over b n = le_trans (le_of_eq (zero-mul L)) (omega arith)

pub zero_size : (k : ℕ) → Size nought k
zero_size k = record { p = 0; n = 0; val = record { sign = false; size = 0; has = (refl, zero-mul L); is = refl }; high = omega arith; low = omega arith }

half-size : Size half 0
unfolding round
half-size = decimal-size 0 1 2 (lit< tt) (lit≤ tt) (lit≤ tt)

-- ---- the offset of a month, where its midnights are at most 65536 in the months that drift
drift-size : (r : Row) → Slow r → (mjd f : Float) → Size mjd 16 → Size f 0
    → Size (add binary64 (seconds_of r) (mul binary64 (sub binary64 (add binary64 mjd f) (start_of r)) (rate_of r))) 11
unfolding seconds_of start_of rate_of
drift-size r s mjd f a b =
    size-add 6 10 11 (lit≤ tt) (lit≤ tt) (decimal-size 6 r.units 10000000 (lit< tt) (lit≤ tt) s.units)
    (mul_small 10 8 B B-L (lit≤ tt)
    (size-sub 17 16 18 (lit≤ tt) (lit≤ tt) (size-add 16 0 17 (lit≤ tt) (lit≤ tt) a b) (decimal-size 16 r.start 1 (lit< tt) (lit≤ tt) s.start))
    (rate-within r.rate s.rate))

-- before 1972, in the fixed table
early-size : (n : ℕ) (mjd f : Float) → n < 23664 → Size f 0 → (23520 ≤ n → Size mjd 16) → Size (offset_at fixed n mjd f) 11
unfolding offset_at
early-size n mjd f l b s = go (leb 23520 n) refl
  where
    go : (x : Bool) → leb 23520 n ≡ x → Size (offset_at fixed n mjd f) 11
    go false e = subst (λ (x : Float). Size x 11) (sym (before_1960 n mjd f (leb-false 23520 n e))) (zero_size 11)
    go true e =
        let k = reached (starts fixed) n in
        let p = one-row n (leb-true 23520 n e) in
        let q = drift-rows n l in
        subst (λ (x : Float). Size x 11) (drifting k mjd f (omega (arith, p)) (omega (arith, p, q)) _ _ _ refl refl refl)
        (drift-size (row_at k) (slow_row (k - 1) (omega (arith, p, q))) mjd f (s (leb-true 23520 n e)) b)

-- ---- the Modified Julian Date of 1960 to 1971
march_mid : (y m d : ℕ) → 6759 ≤ y → y ≤ 6771 → m ≤ 12 → d ≤ 31 → (march_count y m d ≤ 2473600) × (2466000 ≤ march_count y m d)
march_mid y m d a b c e = (omega arith, omega arith)

civil_mid : (y m d : ℕ) → 6760 ≤ y → y ≤ 6771 → m ≤ 12 → d ≤ 31 → (civil_count y m d ≤ 2473600) × (2466000 ≤ civil_count y m d)
unfolding civil_count
civil_mid y m d a b c e = go (leb m 2) refl
  where
    go : (t : Bool) → leb m 2 ≡ t → (cond t (march_count (y - 1) (m + 10) d) (march_count y (m - 2) d) ≤ 2473600)
        × (2466000 ≤ cond t (march_count (y - 1) (m + 10) d) (march_count y (m - 2) d))
    go true p = let l = leb-true m 2 p in march_mid (y - 1) (m + 10) d (omega arith) (omega arith) (omega arith) e
    go false p = march_mid y (m - 2) d (omega arith) b (omega arith) e

less-mid : (n : ℕ) → n ≤ 2473600 → 2466000 ≤ n → (plus_z (sub_ℕ n 2432076) ≤ 65536) × (minus_z (sub_ℕ n 2432076) ≤ 65536)
less-mid n h k = go (ltb n 2432076)
  where
    go : (t : Bool) → (plus_z (cond t (negsuc (2432076 - suc n)) (pos (n - 2432076))) ≤ 65536)
        × (minus_z (cond t (negsuc (2432076 - suc n)) (pos (n - 2432076))) ≤ 65536)
    go true = (omega arith, omega arith)
    go false = (omega arith, omega arith)

mid_at : (y : ℤ) (m d : ℕ) → 1 ≤ m → m ≤ 12 → d ≤ 31 → 23520 ≤ month_number y m → month_number y m < 23664
    → (plus_z (sub_ℕ (civil_count (nat_abs (y +ℤ pos 4800)) m d) 2432076) ≤ 65536) ×
    (minus_z (sub_ℕ (civil_count (nat_abs (y +ℤ pos 4800)) m d) 2432076) ≤ 65536)
unfolding month_number
mid_at (pos y) m d a b c p q = let h = civil_mid (y + 4800) m d (omega arith) (omega arith) b c in less-mid _ h.0 h.1
mid_at (negsuc y) m d a b c p q = absurd (omega arith)

mjd-size : (y m d n : ℤ) → mjd_of y m d ≡ answer n → 23520 ≤ month_number y (nat_abs m) → month_number y (nat_abs m) < 23664 → Size (of_int binary64 n) 16
unfolding mjd_number
mjd-size y m d n e p q =
    let v = mjd-valid y m d n e in
    let a = date-accepted y m d v in
    let s = short (leap_year y) (nat_abs m) a.m_low a.m_high in
    let h = mid_at y (nat_abs m) (nat_abs d) a.m_low a.m_high (omega (arith, a.d_high, s)) p q in
    subst (λ (z : ℤ). Size (of_int binary64 z) 16) (same_answer (sym (mjd-given y m d v) ∙ e)) (int_size 16 _ (lit≤ tt) h.0 h.1)

-- ---- THE SIZE OF TAI-UTC at a date, by a table that is taken
-- the offsets of a day
pub record Offsets (o : DayOffsets) : Type 0 where
  pub at-0h : Size o.at_0h 11
  pub at-12h : Size o.at_12h 11
  pub at-24h : Size o.at_24h 11

module _ (t : AnnouncedRows) (rows : List Row) (taken : table_of t ≡ answer rows) where
  month-size : (n : ℕ) (mjd f : Float) → Size f 0 → (23520 ≤ n → n < 23664 → Size mjd 16) → Size (offset_at rows n mjd f) 11
  month-size n mjd f b s = go (leb 23664 n) refl
    where
      go : (x : Bool) → leb 23664 n ≡ x → Size (offset_at rows n mjd f) 11
      go true e =
          let h = leb-true 23664 n e in
          subst (λ (x : Float). Size x 11) (sym (table-seconds t rows taken n h mjd f))
          (int_size 11 (pos (seconds_in rows n)) (lit≤ tt) (omega (arith, (seconds-in-range t rows taken n h).1)) (omega arith))
      go false e =
          let l = leb-false 23664 n e in
          subst (λ (x : Float). Size x 11) (sym (same-before-announced t rows taken n (omega arith) mjd f)) (early-size n mjd f l b (λ h. s h l))

  pub offset-size : (y m d : ℤ) (f x : Float) → Size f 0 → tai_utc_offset rows y m d f ≡ answer x → Size x 11
  offset-size y m d f x b e =
      let (n, p, q) = offset-came rows y m d f x e in
      subst (λ (z : Float). Size z 11) (sym q) (month-size (month_number y (nat_abs m)) (of_int binary64 n) f b (mjd-size y m d n p))

  pub offsets-size : (y m d : ℤ) (o : DayOffsets) → day_offsets rows y m d ≡ answer o → Offsets o
  unfolding day_offsets
  offsets-size y m d o e =
      let (a, p, q) = came (tai_utc_offset rows y m d nought) _ o e in
      let (b, r, s) = came (tai_utc_offset rows y m d half) _ o q in
      let (n, u, v) = came (next_of y m d) _ o s in
      let (c, w, z) = came (tai_utc_offset rows n.year (pos n.month) (pos n.day) nought) _ o v in
      let k : offsets a b c ≡ o = cc in
      subst Offsets k
      (record {
        at-0h = offset-size y m d nought a (zero_size 0) p;
        at-12h = offset-size y m d half b half-size r;
        at-24h = offset-size n.year (pos n.month) (pos n.day) nought c (zero_size 0) w;
      })

-- ---- the seconds of a day, and a little more or less
day-val : Val seconds_per_day (86400 * L) 0 L
unfolding seconds_per_day round L
day-val = whole_val {p = 86400} {n = 0} (record { sign = false; size = 86400; has = (refl, refl); is = refl })

pub day-size : Size seconds_per_day 17
unfolding seconds_per_day
day-size = decimal-size 17 86400 1 (lit< tt) (lit≤ tt) (lit≤ tt)

pub day-above : Above seconds_per_day
day-above = record { size = 86400 * L; val = day-val; least = omega arith }

pub zero_point_size : Size mjd_zero_point 22
unfolding mjd_zero_point
zero_point_size = decimal-size 22 24000005 10 (lit< tt) (lit≤ tt) (lit≤ tt)

-- a day with a step is at least 1 s long
pub day-more-above : {x : Float} → Size x 12 → Above (add binary64 seconds_per_day x)
day-more-above {x} v = go (add_near 1038 (lit≤ tt) (subst (λ (b : ℕ). 86400 * L + v.p < 0 + v.n + b) (sym top) (omega (arith, v.high, L-pos)))
    (subst (λ (b : ℕ). 0 + v.n < 86400 * L + v.p + b) (sym top) (omega (arith, v.low, L-pos))) day-val v.val)
  where
    top : 2 ^ (53 + 1038) ≡ 131072 * L
    top = sym (ap (λ (z : ℕ). 131072 * z) L-is)

    little : 2 ^ 1038 ≤ L
    little = subst (λ (z : ℕ). 2 ^ 1038 ≤ z) (sym L-is) (lit≤ tt)

    go : NearSum (add binary64 seconds_per_day x) (86400 * L + v.p) (0 + v.n) 1038 → Above (add binary64 seconds_per_day x)
    go k = build (2 ^ 1038) little k.under
      where
        build : (W : ℕ) → W ≤ L → 2 * (k.n + (86400 * L + v.p)) ≤ 2 * (k.p + (0 + v.n)) + W → Above (add binary64 seconds_per_day x)
        build W l u =
            let b = v.low in
            record { size = k.p - k.n; val = val-move k.val (omega arith); least = omega arith }
