-- UT1 to UTC from 1972 on, by a DUT1 of at most 1 s, on days with no leap second near: the answer is UT1 less DUT1 in exact numbers, to 10 ps. Assumes nothing.
use mathlib.Core.Path.{◌≡◌, refl, sym, ap, ◌∙◌, subst}
use mathlib.Core.List.{List}
use mathlib.Core.Bool.{Bool, true, cond, ◌&&◌}
use Prim.Native.Nat.{ℕ, zero, suc, ◌+◌, ◌-◌, ◌*◌, ◌^◌, ◌≤◌, ◌<◌}
use native.Mathlib.Nat.{add-mul, le_of_eq, mul-le-mul_right, lt_of_mul-lt-mul_right}
use native.Mathlib.Omega.{arith}
use lib.Dec.{T, lit≤, lit<}
use lib.IntN.{ℤ, pos, negsuc}
use lib.Ieee.{Float, binary64, add, sub, div, of_int, fits, le, lt}
use lib.Ieee.Bits.{is_true}
use lib.Ieee.Fits.{add-fits}
use Rattle.refusals.specs.Outcome.{answer, refusal}
use Rattle.refusals.proofs.Onward.{went}
use Rattle.floats.specs.Whole.{abs, one, half}
use Rattle.constants.specs.Constants.{seconds_per_day}
use Rattle.rounding.specs.Value.{Val, L, plus_z, minus_z}
use Rattle.rounding.proofs.Value.{L-pos, abs-val, val-finite-true, sub_rounds}
use Rattle.rounding.proofs.Signed.{dist, dist_le}
use Rattle.rounding.proofs.Casts.{of_int_val}
use Rattle.rounding.proofs.Compare.{lt_show}
use Rattle.rounding.proofs.Chain.{ValClose, exactly, close_sub}
use Rattle.rounding.proofs.Near.{add_near, sum_near}
use Rattle.rounding.proofs.Scaled.{div_near}
use Rattle.rounding.proofs.Sizes.{whole_val}
use Rattle.rounding.proofs.Range.{size-at-most}
use Rattle.calendar.specs.Gregorian.{gregorian_date}
use Rattle.julian.specs.day_number.DayNumber.{day_of}
use Rattle.julian.proofs.day_number.Units.{H-L, one-L, half-L}
use Rattle.julian.specs.declared.JulianDate.{JulianDate}
use Rattle.julian.specs.JulianDate.{julian}
use Rattle.julian.specs.Finite.{finite_arg, finite_jd}
use Rattle.julian.proofs.laws.UnixTime.{day-val}
use Rattle.leap_table.specs.declared.rows.AnnouncedRows.{AnnouncedRows}
use Rattle.leap_table.specs.rows.Table.{Row, fixed, most_seconds}
use Rattle.leap_table.specs.rows.Announced.{table_of}
use Rattle.leap_table.specs.offsets.Offset.{whole_f}
use Rattle.leap_table.specs.offsets.Leap.{offsets}
use Rattle.rounding.specs.Picoseconds.{day_ps}
use Rattle.utc_scales.specs.days.Dates.{offset_at0h, offset_of_date}
use Rattle.utc_scales.specs.days.LargerPart.{first_is_kept}
use Rattle.utc_scales.specs.from_ut1.Ut1Utc.{noStep, scan_day, adjust_dut1, utc_fraction, ut1_to_utc}
use Rattle.utc_scales.proofs.days.Steps.{offset-of-day}
use Rattle.utc_scales.proofs.Steps.{offsets-first}
use Rattle.utc_scales.proofs.from_ut1.Steps.{scan-no-step, scan-on, scan-done}
use Rattle.utc_scales.specs.round_trip.UtcDays.{H, seconds_on, OnDay, ExactDay}
use Rattle.utc_scales.specs.round_trip.Ranges.{HalfDaySplit}
use Rattle.utc_scales.proofs.round_trip.Units.{h, L-H, L-h, h_small, adds}
use Rattle.utc_scales.proofs.round_trip.Parts.{FirstPart, SecondPart, Around, parts-worth, parts-joined, first_part, second-part}
use Rattle.utc_scales.proofs.round_trip.Located.{CalendarNear, placed}
use Rattle.utc_scales.proofs.round_trip.DaySeconds.{WholeTable, table-whole, fixed-whole}
use Rattle.utc_scales.proofs.round_trip.FixedDays.{fixed-day}
use Rattle.utc_scales.proofs.round_trip.Kept.{first-larger, kept-changed}
use Rattle.utc_scales.proofs.round_trip.Meant.{day-of}
use Rattle.utc_scales.specs.ut1_laws.Back.{FoundWith, NoStepFound, NoLeapNear, utc_ps, RightUtcOfUt1}
use Rattle.utc_scales.proofs.ut1_laws.Ut1.{size-q, unit_q, seconds-val}

-- ---- the date some days later: a sum of less than eight days
days-8 : 2 ^ (53 + 1024) ≡ 8 * L
unfolding L
days-8 = refl

units-8 : 2 ^ 1024 ≡ 8 * h
unfolding h
units-8 = refl

module _ {a u : Float} {A up un : ℕ} (v : FirstPart a A) (w : SecondPart u up un) (i : ℤ) (ip : plus_z i ≤ 3) (im : minus_z i ≤ 1) where
  abbrev pub there : Float
  there = add binary64 u (of_int binary64 i)

  pub ahead : plus_z i * L ≤ 3 * L
  ahead = mul-le-mul_right L ip

  pub behind : minus_z i * L ≤ 1 * L
  behind = mul-le-mul_right L im

  pub moved : ValClose L there (up + plus_z i * L) (un + minus_z i * L) (4 * h)
  moved =
      let s =
      add_near 1024 (lit≤ tt)
      (subst (λ (z : ℕ). up + plus_z i * L < un + minus_z i * L + z) (sym days-8) (high (plus_z i * L) (minus_z i * L) ahead))
      (subst (λ (z : ℕ). un + minus_z i * L < up + plus_z i * L + z) (sym days-8) (low (plus_z i * L) (minus_z i * L) behind))
      w.val (whole_val (of_int_val i (omega arith) (omega arith))) in
      record {
        p = s.p;
        n = s.n;
        val = s.val;
        over = part (s.p + (un + minus_z i * L)) (s.n + (up + plus_z i * L)) (2 ^ 1024) units-8 s.over;
        under = part (s.n + (up + plus_z i * L)) (s.p + (un + minus_z i * L)) (2 ^ 1024) units-8 s.under;
      }
    where
      high : (q m : ℕ) → q ≤ 3 * L → up + q < un + m + 8 * L
      high q m k = omega (arith, w.over, L-pos)

      low : (q m : ℕ) → m ≤ 1 * L → un + m < up + q + 8 * L
      low q m k = omega (arith, w.under, L-pos)

      part : (x y z : ℕ) → z ≡ 8 * h → 2 * x ≤ 2 * y + z → x ≤ y + 4 * h
      part x y z e k = omega arith

  pub near : Around a there A moved.p moved.n
  near = record {
    held1 = v.held;
    held2 = add-fits binary64 _ _;
    val1 = v.val;
    val2 = moved.val;
    most = v.high;
    over = over moved.p moved.n (plus_z i * L) (minus_z i * L) ahead moved.over;
    under = under moved.p moved.n (plus_z i * L) (minus_z i * L) behind moved.under;
    low = low moved.p moved.n (plus_z i * L) (minus_z i * L) behind moved.under;
    high = high moved.p moved.n (plus_z i * L) (minus_z i * L) ahead moved.over;
  }
    where
      over : (p n q m : ℕ) → q ≤ 3 * L → p + (un + m) ≤ n + (up + q) + 4 * h → p ≤ n + 131072 * L
      over p n q m k e = omega (arith, w.over, h_small, L-pos)

      under : (p n q m : ℕ) → m ≤ 1 * L → n + (up + q) ≤ p + (un + m) + 4 * h → n ≤ p + 131072 * L
      under p n q m k e = omega (arith, w.under, h_small, L-pos)

      low : (p n q m : ℕ) → m ≤ 1 * L → n + (up + q) ≤ p + (un + m) + 4 * h → 4000000 * H + n ≤ A + p
      low p n q m k e = omega (arith, w.under, v.low, h_small, L-H, L-pos)

      high : (p n q m : ℕ) → q ≤ 3 * L → p + (un + m) ≤ n + (up + q) + 4 * h → A + p ≤ n + 12000000 * H
      high p n q m k e = omega (arith, w.over, v.high, h_small, L-H, L-pos)

  -- the day that the calendar finds for it
  abbrev pub spot : CalendarNear a there A moved.p moved.n
  spot = placed near

  day-high : spot.n < 1000000000
  day-high = more spot.n (lt_of_mul-lt-mul_right L (last (spot.n * L) spot.f moved.p moved.n near.high spot.near-over))
    where
      last : (N f p n : ℕ) → A + p ≤ n + 12000000 * H → N + f + n ≤ A + p + H + 4 * h → N < 6000002 * L
      last N f p n g c = omega (arith, h_small, L-H, L-pos)

      more : (n : ℕ) → n < 6000002 → n < 1000000000
      more n c = omega arith

  -- TAI-UTC on it
  module _ {rows : List Row} (b : WholeTable rows) {D : ℕ} (f : FoundWith rows D (julian a u) i) where
    pub same-day : spot.n ≡ f.n
    same-day = same (day_of a there).day spot.n f.n spot.day f.day
      where
        same : (z : ℤ) (n m : ℕ) → z ≡ pos n → z ≡ pos m → n ≡ m
        same z n m p q = cc

    f-high : f.n < 1000000000
    f-high = subst (λ (n : ℕ). n < 1000000000) same-day day-high

    pub few : D ≤ most_seconds
    few = omega (arith, (b.whole f.n f.from f-high).most, f.seconds)

    pub offset-is : offset_at0h rows (gregorian_date (day_of a there).day) ≡ answer (whole_f D)
    offset-is =
        ap (λ (z : ℤ). offset_at0h rows (gregorian_date z)) f.day
        ∙ offsets-first rows (gregorian_date (pos f.n))
        (offsets (whole_f (seconds_on rows f.n)) (whole_f (seconds_on rows f.n)) (whole_f (seconds_on rows (suc f.n))))
        (b.day-offsets f.n f.from f-high)
        ∙ ap (λ (s : ℕ). answer (whole_f s)) f.seconds

-- ---- no step from a day to the next, where both have D seconds
pub level : (D : ℕ) → D ≤ most_seconds → lt (abs (sub binary64 (whole_f D) (whole_f D))) half ≡ true
level D g =
    let s = sum_near 0 (lit≤ tt) (some (D * L) (2 ^ (53 + 0)) (lit< tt)) (some' (D * L) (2 ^ (53 + 0)) (lit< tt))
    (sub_rounds binary64 L-pos (seconds-val D g) (seconds-val D g)) in
    is_true _ (lt_show L-pos (abs-val s.val) half-L
    (less (dist s.p s.n) (dist_le s.p s.n 0 (none s.p s.n (D * L) s.over) (none' s.n s.p (D * L) s.under))))
  where
    some : (d z : ℕ) → 0 < z → d + 0 < 0 + d + z
    some d z k = omega arith

    some' : (d z : ℕ) → 0 < z → 0 + d < d + 0 + z
    some' d z k = omega arith

    none : (p n d : ℕ) → 2 * (p + (0 + d)) ≤ 2 * (n + (d + 0)) + 2 ^ 0 → p ≤ n + 0
    none p n d k = omega arith

    none' : (n p d : ℕ) → 2 * (n + (d + 0)) ≤ 2 * (p + (0 + d)) + 2 ^ 0 → n ≤ p + 0
    none' n p d k = omega arith

    less : (e : ℕ) → e ≤ 0 → e + 0 < H + 0
    less e k = omega (arith, H-L, L-pos)

-- ---- UT1 less DUT1 on floats
-- 86400 times it is within 86485 h of 86400 (up - un) - (x - y)
pub record Less (z : Float) (up un x y : ℕ) : Type 0 where
  pub p : ℕ
  pub n : ℕ
  pub val : Val z p n L
  pub over : 86400 * (p + un) + x ≤ 86400 * (n + up) + y + 86485 * h
  pub under : 86400 * (n + up) + y ≤ 86400 * (p + un) + x + 86485 * h

pub less-dut1 : {u c : Float} {up un x y : ℕ} → SecondPart u up un → Val c x y L → x ≤ y + 2 * L → y ≤ x + 2 * L
    → Less (sub binary64 u (div binary64 c seconds_per_day)) up un x y
less-dut1 {u} {c} {up} {un} {x} {y} w vc hx hy =
    let q = div_near 1012 86400 (lit< tt) (lit≤ tt) (room x y (2 ^ (53 + 1012)) size-q hx) (room y x (2 ^ (53 + 1012)) size-q hy) vc day-val in
    let r = close_sub L h adds (exactly w.val) (exactly q.val) (high q.p q.n (2 ^ 1012) unit_q q.under)
    (low q.p q.n (2 ^ 1012) unit_q q.over) in
    record {
      p = r.p;
      n = r.n;
      val = r.val;
      over = end r.p r.n up un q.p q.n x y (2 ^ 1012) unit_q r.over q.under;
      under =
          end r.n r.p un up q.n q.p y x (2 ^ 1012) unit_q r.under q.over;
    }
  where
    room : (x y z : ℕ) → 512 * z ≡ L → x ≤ y + 2 * L → x < y + z * 86400
    room x y z e k = omega (arith, L-pos)

    high : (p n z : ℕ) → 512 * z ≡ h → 2 * (86400 * n + 1 * x) ≤ 2 * (86400 * p + 1 * y) + 86400 * z → up + n + (0 + 0) < un + p + 2 * L
    high p n z e k = omega (arith, w.over, hy, h_small, L-pos)

    low : (p n z : ℕ) → 512 * z ≡ h → 2 * (86400 * p + 1 * y) ≤ 2 * (86400 * n + 1 * x) + 86400 * z → un + p + (0 + 0) < up + n + 2 * L
    low p n z e k = omega (arith, w.under, hx, h_small, L-pos)

    end : (p n up un qp qn x y z : ℕ) → 512 * z ≡ h → p + (un + qp) ≤ n + (up + qn) + (0 + 0 + h)
        → 2 * (86400 * qn + 1 * x) ≤ 2 * (86400 * qp + 1 * y) + 86400 * z → 86400 * (p + un) + x ≤ 86400 * (n + up) + y + 86485 * h
    end p n up un qp qn x y z e r k = omega arith

to-picoseconds : (x y : ℕ) → x ≤ y + 86485 * h → day_ps * x ≤ day_ps * y + utc_ps * (86400 * L)
to-picoseconds x y k = omega (arith, L-h)

-- ---- one evaluation, where TAI-UTC is D seconds on the days that the calendar finds
module _ {rows : List Row} (b : WholeTable rows) {a u : Float} {A up un : ℕ} (v : FirstPart a A) (w : SecondPart u up un) (s : NoStepFound rows (julian a u))
    (c : Float) where
  abbrev D : ℕ
  D = s.D

  most : D ≤ most_seconds
  most = few v w (negsuc 0) (lit≤ tt) (lit≤ tt) b s.before

  before-is : offset_of_date rows a (add binary64 u (of_int binary64 (negsuc 0))) ≡ answer (whole_f D)
  before-is = offset-of-day rows a _ (day_of a (add binary64 u (of_int binary64 (negsuc 0)))) (spot v w (negsuc 0) (lit≤ tt) (lit≤ tt)).given
      ∙ offset-is v w (negsuc 0) (lit≤ tt) (lit≤ tt) b s.before

  day_is : (i : ℕ) → i ≤ 3 → FoundWith rows D (julian a u) (pos i) → scan_day rows a u c (of_int binary64 (pos i)) (whole_f D) ≡ answer (noStep (whole_f D))
  day_is i g f =
      scan-no-step rows a u c (of_int binary64 (pos i)) (whole_f D) (day_of a (add binary64 u (of_int binary64 (pos i)))) (spot v w (pos i) g (lit≤ tt)).given
      (whole_f D) (offset-is v w (pos i) g (lit≤ tt) b f) (level D most)

  dut1-stays : adjust_dut1 rows a u c ≡ answer c
  unfolding adjust_dut1
  dut1-stays =
      went _ before-is
      ∙ scan-on rows a u c 0 (whole_f D) (lit< tt) (whole_f D) (day_is 0 (lit≤ tt) s.first)
      ∙ scan-on rows a u c 1 (whole_f D) (lit< tt) (whole_f D) (day_is 1 (lit≤ tt) s.second)
      ∙ scan-on rows a u c 2 (whole_f D) (lit< tt) (whole_f D) (day_is 2 (lit≤ tt) s.third)
      ∙ scan-on rows a u c 3 (whole_f D) (lit< tt) (whole_f D) (day_is 3 (lit≤ tt) s.fourth)
      ∙ scan-done rows a u c 4 (whole_f D) (lit≤ tt)

  module _ (x y : ℕ) (vc : Val c x y L) (hx : x ≤ y + L) (hy : y ≤ x + L) where
    larger : first_is_kept (julian a u) ≡ true
    larger = first-larger v.val w.val (omega (arith, v.low, w.over, L-H)) (omega (arith, v.low, w.under, L-H))

    fraction-is : utc_fraction rows c a u ≡ answer (sub binary64 u (div binary64 c seconds_per_day))
    unfolding utc_fraction
    fraction-is = went _ dut1-stays

    arg : finite_arg c ≡ answer c
    unfolding finite_arg
    arg = ap (λ (b : Bool). cond b (answer c) (refusal 10)) (val-finite-true vc)

    parts : finite_jd (julian a u) ≡ answer (julian a u)
    unfolding finite_jd
    parts = λ j. cond (val-finite-true v.val j && val-finite-true w.val j) (answer (julian a u)) (refusal 9)

    pub is : ut1_to_utc rows (julian a u) c ≡ answer (julian a (sub binary64 u (div binary64 c seconds_per_day)))
    unfolding ut1_to_utc
    is = went _ arg ∙ went _ parts ∙ kept-changed (utc_fraction rows c) a u _ larger fraction-is

    right : RightUtcOfUt1 rows utc_ps (julian a u) c
    right =
        let r = less-dut1 w vc (omega (arith, hx)) (omega (arith, hy)) in
        record {
          x = x;
          y = y;
          offset = vc;
          jd2 = sub binary64 u (div binary64 c seconds_per_day);
          is = is;
          means = record {
            p = A + up;
            n = un;
            p' = A + r.p;
            n' = r.n;
            from = parts-worth v w;
            to = parts-joined v.val r.val;
            over = to-picoseconds _ _ (omega (arith, r.over));
            under = to-picoseconds _ _ (omega (arith, r.under));
          };
        }

-- ---- THE THEOREM by the days that the calendar finds: jd1 and jd2 in the range of request 14, and a DUT1 of at most 1 s
whole-by-days : {rows : List Row} → WholeTable rows → {d : JulianDate} → HalfDaySplit d → NoStepFound rows d → (dut1 : Float) → T (fits binary64 dut1)
    → T (le (abs dut1) one) → RightUtcOfUt1 rows utc_ps d dut1
whole-by-days b s o c f l = let z = size-at-most f one-L l in right b (first_part s) (second-part s).2 o c z.p z.n z.val z.high z.low

-- by every table that is taken, and by the fixed one
pub table-ut1-to-utc-by-days : (t : AnnouncedRows) (rows : List Row) → table_of t ≡ answer rows → {d : JulianDate} → HalfDaySplit d → NoStepFound rows d
    → (dut1 : Float) → T (fits binary64 dut1) → T (le (abs dut1) one) → RightUtcOfUt1 rows utc_ps d dut1
table-ut1-to-utc-by-days t rows e s o c f l = whole-by-days (table-whole t rows e) s o c f l

pub ut1-to-utc-by-days : {d : JulianDate} → HalfDaySplit d → NoStepFound fixed d → (dut1 : Float) → T (fits binary64 dut1) → T (le (abs dut1) one)
    → RightUtcOfUt1 fixed utc_ps d dut1
ut1-to-utc-by-days s o c f l = whole-by-days fixed-whole s o c f l

-- ---- by the fixed table no leap second is near where TAI-UTC is the same two days before and four days after, since it does not fall from a day to a later
-- one
rises : (k m : ℕ) → 2441318 ≤ m → m + k < 1000000000 → seconds_on fixed m ≤ seconds_on fixed (m + k)
rises zero m g b = le_of_eq (ap (seconds_on fixed) (same m))
  where
    same : (m : ℕ) → m ≡ m + 0
    same m = omega arith
rises (suc k) m g b =
    let e : suc (m + k) ≡ m + suc k = omega arith in
    let r = rises k m g (omega arith) in
    let q = (fixed-day (m + k) (omega arith) (omega arith)).next in
    subst (λ (j : ℕ). seconds_on fixed m ≤ seconds_on fixed j) e (omega arith)

pub by-both-ends : (n : ℕ) → 2441320 ≤ n → n < 999999990 → seconds_on fixed (n - 2) ≡ seconds_on fixed (n + 4) → NoLeapNear fixed n
by-both-ends n g b e = record { from = g; same = between }
  where
    between : (i : ℕ) → i ≤ 6 → seconds_on fixed (n - 2 + i) ≡ seconds_on fixed (n - 2)
    between i l =
        let p = rises i (n - 2) (omega arith) (omega arith) in
        let m : n - 2 + i + (6 - i) ≡ n + 4 = omega arith in
        let q = subst (λ (j : ℕ). seconds_on fixed (n - 2 + i) ≤ seconds_on fixed j) m (rises (6 - i) (n - 2 + i) (omega arith) (omega arith)) in
        omega arith

-- ---- with no leap second near the exact day, the calendar finds days with one number of seconds
module _ {a u : Float} {A up un : ℕ} (v : FirstPart a A) (w : SecondPart u up un) (n : ℕ) (o : OnDay (A + up) un n)
    {rows : List Row} (s : NoLeapNear rows n) where
  pub exact-high : n < 5000003
  exact-high = lt_of_mul-lt-mul_right L (last (n * L) o.f o.is)
    where
      last : (N f : ℕ) → N + f + un ≡ A + up + H → N < 5000003 * L
      last N f c = omega (arith, v.high, w.over, L-H, L-pos)

  module _ (i : ℤ) (ip : plus_z i ≤ 3) (im : minus_z i ≤ 1) where
    abbrev z : CalendarNear a (add binary64 u (of_int binary64 i)) A (moved v w i ip im).p (moved v w i ip im).n
    z = spot v w i ip im

    below : z.n < n + 5
    below =
        lt_of_mul-lt-mul_right L
        (subst (λ (t : ℕ). z.n * L < t) (sym (add-mul n 5 L))
        (go (z.n * L) z.f (n * L) o.f (moved v w i ip im).p (moved v w i ip im).n (plus_z i * L) (minus_z i * L) (ahead v w i ip im) o.below o.is
        (moved v w i ip im).over z.near-over))
      where
        go : (M f N e p m q r : ℕ) → q ≤ 3 * L → e < L → N + e + un ≡ A + up + H → p + (un + r) ≤ m + (up + q) + 4 * h → M + f + m ≤ A + p + H + 4 * h
            → M < N + 5 * L
        go M f N e p m q r b c d g l = omega (arith, h_small, L-pos)

    above : n < z.n + 3
    above =
        lt_of_mul-lt-mul_right L
        (subst (λ (t : ℕ). n * L < t) (sym (add-mul z.n 3 L))
        (go (z.n * L) z.f (n * L) o.f (moved v w i ip im).p (moved v w i ip im).n (plus_z i * L) (minus_z i * L) (behind v w i ip im) z.below
        o.is (moved v w i ip im).under z.near-under))
      where
        go : (M f N e p m q r : ℕ) → r ≤ 1 * L → f < L → N + e + un ≡ A + up + H → m + (up + q) ≤ p + (un + r) + 4 * h → A + p + H ≤ M + f + m + 4 * h
            → N < M + 3 * L
        go M f N e p m q r b c d g l = omega (arith, h_small, L-pos)

    found : FoundWith rows (seconds_on rows (n - 2)) (julian a u) i
    found =
        let g = s.from in
        let b = below in
        let t = above in
        let e : n - 2 + (z.n - (n - 2)) ≡ z.n = omega arith in
        record {
          n = z.n;
          from = omega arith;
          day = z.day;
          seconds = subst (λ (m : ℕ). seconds_on rows m ≡ seconds_on rows (n - 2)) e (s.same (z.n - (n - 2)) (omega arith));
        }

  pub no_step : NoStepFound rows (julian a u)
  no_step = record {
    D = seconds_on rows (n - 2);
    before = found (negsuc 0) (lit≤ tt) (lit≤ tt);
    first = found (pos 0) (lit≤ tt) (lit≤ tt);
    second = found (pos 1) (lit≤ tt) (lit≤ tt);
    third = found (pos 2) (lit≤ tt) (lit≤ tt);
    fourth = found (pos 3) (lit≤ tt) (lit≤ tt);
  }

-- ---- THE THEOREM: on an exact day n with no leap second near
whole-means : {rows : List Row} → WholeTable rows → {d : JulianDate} {n : ℕ} → HalfDaySplit d → ExactDay d n → NoLeapNear rows n → (dut1 : Float)
    → T (fits binary64 dut1) → T (le (abs dut1) one) → RightUtcOfUt1 rows utc_ps d dut1
whole-means b {n = n} s x o c f l =
    let v = first_part s in
    let w = (second-part s).2 in
    whole-by-days b s (no_step v w n (day-of x (parts-worth v w)) o) c f l

-- by every table that is taken, and by the fixed one
pub table-ut1-to-utc-means : (t : AnnouncedRows) (rows : List Row) → table_of t ≡ answer rows → {d : JulianDate} {n : ℕ} → HalfDaySplit d → ExactDay d n
    → NoLeapNear rows n → (dut1 : Float) → T (fits binary64 dut1) → T (le (abs dut1) one) → RightUtcOfUt1 rows utc_ps d dut1
table-ut1-to-utc-means t rows e s x o c f l = whole-means (table-whole t rows e) s x o c f l

pub ut1-to-utc-means : {d : JulianDate} {n : ℕ} → HalfDaySplit d → ExactDay d n → NoLeapNear fixed n → (dut1 : Float) → T (fits binary64 dut1)
    → T (le (abs dut1) one) → RightUtcOfUt1 fixed utc_ps d dut1
ut1-to-utc-means s x o c f l = whole-means fixed-whole s x o c f l
