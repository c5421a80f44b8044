-- UT1 TO UTC ABOUT A LEAP SECOND that is inserted: the answer is the exact relation's to 17 ps, by the DUT1 before the leap second, which is DUT1 itself or,
-- where that is not below 0, DUT1 less the leap second. Assumes nothing.
use mathlib.Core.Path.{◌≡◌, refl, ap, ◌∙◌, subst}
use mathlib.Core.Bool.{Bool, true, false, cond, ◌&&◌}
use mathlib.Core.List.{List}
use Prim.Native.Nat.{ℕ, zero, suc, ◌+◌, ◌-◌, ◌*◌, ◌≤◌, ◌<◌}
use native.Mathlib.Nat.{zero-mul}
use native.Mathlib.Omega.{arith}
use lib.Dec.{T, lit≤}
use lib.IntN.{pos, negsuc}
use lib.Ieee.{Float, binary64, round, add, sub, mul, div, of_int, fits, le, lt, eq}
use Rattle.refusals.specs.Outcome.{answer, refusal}
use Rattle.refusals.proofs.Onward.{went}
use Rattle.floats.specs.Whole.{abs, nought, one, half}
use Rattle.constants.specs.Constants.{seconds_per_day}
use Rattle.rounding.specs.Value.{Val, L}
use Rattle.rounding.specs.Picoseconds.{day_ps}
use Rattle.rounding.proofs.Value.{L-pos, val-finite-true}
use Rattle.rounding.proofs.Compare.{le_true, le_false}
use Rattle.rounding.proofs.Chain.{exactly, close_sub}
use Rattle.rounding.proofs.Range.{size-at-most}
use Rattle.julian.specs.day_number.DayNumber.{day_of}
use Rattle.julian.proofs.day_number.Units.{one-L, nought-L}
use Rattle.julian.proofs.day_order.Once.{again}
use Rattle.julian.specs.declared.JulianDate.{JulianDate}
use Rattle.julian.specs.JulianDate.{julian}
use Rattle.julian.specs.Finite.{finite_arg, finite_jd}
use Rattle.leap_table.specs.declared.rows.AnnouncedRows.{AnnouncedRows}
use Rattle.leap_table.specs.rows.Table.{Row, fixed, most_seconds}
use Rattle.leap_table.specs.rows.Announced.{table_of}
use Rattle.leap_table.specs.offsets.Offset.{whole_f}
use Rattle.leap_days.proofs.drift.Tests.{each, same_f, same_float}
use Rattle.utc_scales.specs.days.Dates.{offset_of_date}
use Rattle.utc_scales.specs.days.LargerPart.{first_is_kept}
use Rattle.utc_scales.specs.from_ut1.Ut1Utc.{noStep, step, scan_day, scan, before_step, time_past_leap, near_step, adjust_dut1, utc_fraction, ut1_to_utc}
use Rattle.utc_scales.specs.round_trip.UtcDays.{H}
use Rattle.utc_scales.specs.round_trip.Ranges.{HalfDaySplit}
use Rattle.utc_scales.specs.ut1_laws.Near.{LeapFound, near_ps, RightUtcNear}
use Rattle.utc_scales.proofs.days.Steps.{offset-of-day}
use Rattle.utc_scales.proofs.days.Midnights.{midnight_of_day}
use Rattle.utc_scales.proofs.from_ut1.Steps.{scan-no-step, scan_step, scan-on, scan-ends}
use Rattle.utc_scales.proofs.round_trip.Units.{h, L-H, L-h, h_small, adds, next_midnight}
use Rattle.utc_scales.proofs.round_trip.Parts.{FirstPart, SecondPart, parts-joined, first_part}
use Rattle.utc_scales.proofs.round_trip.Kept.{first-larger, kept-changed}
use Rattle.utc_scales.proofs.round_trip.DaySeconds.{WholeTable, table-whole, fixed-whole}
use Rattle.utc_scales.proofs.ut1_laws.Back.{ahead, spot, few, offset-is, same-day, level, less-dut1, Less}
use Rattle.utc_scales.proofs.ut1_laws.Back.{moved as shifted}
use Rattle.utc_scales.proofs.ut1_laws.Near.{Adjusted, adjusted, one-times}

-- ---- a second more: 1.0, and that is a step
more_test : ℕ → Bool
unfolding round sub add of_int
more_test D = same_f (sub binary64 (whole_f (suc D)) (whole_f D)) one

one_more : (D : ℕ) → D < 64 → sub binary64 (whole_f (suc D)) (whole_f D) ≡ one
unfolding more_test
one_more D l = same_float (sub binary64 (whole_f (suc D)) (whole_f D)) one (each more_test 64 D l tt)

a-step : lt (abs one) half ≡ false
unfolding lt le eq abs
a-step = refl

-- ---- the DUT1 before the leap second: from -1 s to 0, but for a rounding
record Bounded (b : Float) : Type 0 where
  x : ℕ
  y : ℕ
  val : Val b x y L
  high : x ≤ y + h
  low : y ≤ x + L + h

before-leap : (c : Float) → T (fits binary64 c) → T (le (abs c) one) → Bounded (before_step one c)
unfolding before_step
before-leap c f l =
    let z = size-at-most f one-L l in
    go z.p z.n z.val z.high z.low (le nought (mul binary64 one c)) refl
  where
    go : (p n : ℕ) → Val c p n L → p ≤ n + L → n ≤ p + L → (b : Bool) → le nought (mul binary64 one c) ≡ b → Bounded (cond b (sub binary64 c one) c)
    go p n v i j true e =
        let m = le_true L-pos nought-L (again f v (one-times v)) e in
        let r = close_sub L h adds (exactly v) (exactly one-L) (omega (arith, L-pos)) (omega (arith, L-pos)) in
        record { x = r.p; y = r.n; val = r.val; high = omega (arith, r.over, m); low = omega (arith, r.under, m) }
    go p n v i j false e =
        let m = le_false L-pos nought-L (again f v (one-times v)) e in
        record { x = p; y = n; val = v; high = omega (arith, m); low = omega arith }

-- ---- in picoseconds: 86485 h and 65551 h
in_ps : (X Y : ℕ) → X ≤ Y + 152036 * h → day_ps * X ≤ day_ps * Y + near_ps * (86400 * L)
in_ps X Y i = omega (arith, L-h)

in_ps_day : (X Y : ℕ) → 86400 * X ≤ 86400 * Y + 86401 * (152036 * h) → day_ps * X ≤ day_ps * Y + near_ps * (86401 * L)
in_ps_day X Y i = go (day_ps * X) (day_ps * Y) (day_ps * (86401 * (152036 * h))) (times X Y (86401 * (152036 * h)) i) bound
  where
    bound : day_ps * (86401 * (152036 * h)) ≤ 86400 * (near_ps * (86401 * L))
    bound = omega (arith, L-h)

    times : (x y e : ℕ) → 86400 * x ≤ 86400 * y + e → 86400 * (day_ps * x) ≤ 86400 * (day_ps * y) + day_ps * e
    times x y e j = omega arith

    go : (x y e : ℕ) → 86400 * x ≤ 86400 * y + e → e ≤ 86400 * (near_ps * (86401 * L)) → x ≤ y + near_ps * (86401 * L)
    go x y e j l = omega arith

-- the sums: r = rp - rn is the answer, g = gp - gn the adjusted DUT1
module _ (A up un k x y rp rn gp gn : ℕ) (over : 86400 * (rp + un) + gp ≤ 86400 * (rn + up) + gn + 86485 * h)
    (under : 86400 * (rn + up) + gn ≤ 86400 * (rp + un) + gp + 86485 * h) where
  early-over : gn + x ≤ gp + y + 65551 * h → 86400 * (A + rp) + 86400 * un + x ≤ 86400 * rn + 86400 * (A + up) + y + 152036 * h
  early-over i = omega arith

  early-under : gp + y ≤ gn + x + 65551 * h → 86400 * rn + 86400 * (A + up) + y ≤ 86400 * (A + rp) + 86400 * un + x + 152036 * h
  early-under i = omega arith

  late-over : gn + x + L ≤ gp + y + 65551 * h → 86400 * (A + rp) + 86400 * un + (x + L) ≤ 86400 * rn + 86400 * (A + up) + y + 152036 * h
  late-over i = omega arith

  late-under : gp + y ≤ gn + x + L + 65551 * h → 86400 * rn + 86400 * (A + up) + y ≤ 86400 * (A + rp) + 86400 * un + (x + L) + 152036 * h
  late-under i = omega arith

  day-over : (K : ℕ) → 86401 * (gn + x) + (86400 * (A + up + H) + y) ≤ 86401 * (gp + y) + (86400 * (un + K) + x) + 86401 * (65551 * h)
      → 86400 * (86401 * (A + rp) + 86400 * un + (x + H)) ≤ 86400 * (86401 * rn + 86400 * (A + up) + (y + K)) + 86401 * (152036 * h)
  day-over K i = omega arith

  day-under : (K : ℕ) → 86401 * (gp + y) + (86400 * (un + K) + x) ≤ 86401 * (gn + x) + (86400 * (A + up + H) + y) + 86401 * (65551 * h)
      → 86400 * (86401 * rn + 86400 * (A + up) + (y + K)) ≤ 86400 * (86401 * (A + rp) + 86400 * un + (x + H)) + 86401 * (152036 * h)
  day-under K i = omega arith

-- ---- one evaluation
module _ {rows : List Row} (t : WholeTable rows) {a u : Float} {A up un : ℕ} (v : FirstPart a A) (held : T (fits binary64 u)) (vu : Val u up un L)
    (hu : up ≤ un + L) (lu : un ≤ up + L) (c : Float) (fc : T (fits binary64 c)) (kc : T (le (abs c) one)) (k : ℕ) (s : LeapFound rows k (julian a u)) where
  abbrev w : SecondPart u up un
  w = record { held = held; val = vu; over = wide up un hu; under = wide un up lu }
    where
      wide : (p n : ℕ) → p ≤ n + L → 1024 * p ≤ 1024 * n + 1027 * L
      wide p n i = omega arith

  abbrev D : ℕ
  D = s.D

  abbrev i : ℕ
  i = s.i

  most : D ≤ most_seconds
  most = few v w (negsuc 0) (lit≤ tt) (lit≤ tt) t s.before

  b : Bounded (before_step one c)
  b = before-leap c fc kc

  -- the scan
  abbrev g : Float
  g = near_step a u c one (midnight_of_day (pos (suc k)))

  before-is : offset_of_date rows a (add binary64 u (of_int binary64 (negsuc 0))) ≡ answer (whole_f D)
  before-is = offset-of-day rows a _ (day_of a (add binary64 u (of_int binary64 (negsuc 0)))) (spot v w (negsuc 0) (lit≤ tt) (lit≤ tt)).given
      ∙ offset-is v w (negsuc 0) (lit≤ tt) (lit≤ tt) t s.before

  day_is : (j : ℕ) → j ≤ 3 → j < i → scan_day rows a u c (of_int binary64 (pos j)) (whole_f D) ≡ answer (noStep (whole_f D))
  day_is j l m =
      scan-no-step rows a u c (of_int binary64 (pos j)) (whole_f D) (day_of a (add binary64 u (of_int binary64 (pos j)))) (spot v w (pos j) l (lit≤ tt)).given
      (whole_f D) (offset-is v w (pos j) l (lit≤ tt) t (s.same j m)) (level D most)

  step_is : scan_day rows a u c (of_int binary64 (pos i)) (whole_f D) ≡ answer (step g)
  step_is =
      scan_step rows a u c (of_int binary64 (pos i)) (whole_f D) (day_of a (add binary64 u (of_int binary64 (pos i)))) (spot v w (pos i) s.most (lit≤ tt)).given
      (whole_f (suc D)) (offset-is v w (pos i) s.most (lit≤ tt) t s.after) (spot v w (pos i) s.most (lit≤ tt)).in-days
      (ap (λ (z : Float). lt (abs z) half) (one_more D (omega (arith, most))) ∙ a-step)
      ∙ (λ j. answer (step (near_step a u c (one_more D (omega (arith, most)) j) (midnight_of_day (day j)))))
    where
      day : (day_of a (add binary64 u (of_int binary64 (pos i)))).day ≡ pos (suc k)
      day = s.after.day ∙ ap pos s.day

  run : (r j : ℕ) → j + r ≡ i → scan rows a u c (4 - j) j (whole_f D) ≡ answer g
  run zero j e =
      scan-ends rows a u c j (whole_f D) (omega (arith, s.most)) g
      (subst (λ (n : ℕ). scan_day rows a u c (of_int binary64 (pos n)) (whole_f D) ≡ answer (step g)) (same j e) step_is)
    where
      same : (j : ℕ) → j + zero ≡ i → i ≡ j
      same j e = omega arith
  run (suc r) j e =
      scan-on rows a u c j (whole_f D) (omega (arith, s.most)) (whole_f D) (day_is j (omega (arith, s.most)) (omega arith)) ∙ run r (j + 1) (omega arith)

  adjust_is : adjust_dut1 rows a u c ≡ answer g
  unfolding adjust_dut1
  adjust_is = went _ before-is ∙ run i 0 (omega arith)

  -- where the date lies
  abbrev m : ℕ
  m = s.after.n

  near-day : (A + up + H ≤ un + k * L + 5 * L) × (un + k * L ≤ A + up + H + 5 * L)
  near-day =
      let z = spot v w (pos i) s.most (lit≤ tt) in
      let o = shifted v w (pos i) s.most (lit≤ tt) in
      let e : z.n ≡ suc k = same-day v w (pos i) s.most (lit≤ tt) t s.after ∙ s.day in
      let f : z.n * L ≡ L + k * L = ap (λ (n : ℕ). n * L) e ∙ next_midnight k in (
        first (z.n * L) z.f (k * L) o.p o.n (i * L) (0 * L) (zero-mul L) f z.below z.near-under o.under,
        second (z.n * L) z.f (k * L) o.p o.n (i * L) (0 * L) f (ahead v w (pos i) s.most (lit≤ tt)) z.near-over o.over,
      )
    where
      first : (N f K p n q r : ℕ) → r ≡ 0 → N ≡ L + K → f < L → A + p + H ≤ N + f + n + 4 * h → n + (up + q) ≤ p + (un + r) + 4 * h
          → A + up + H ≤ un + K + 5 * L
      first N f K p n q r o e l x y = omega (arith, h_small, L-pos)

      second : (N f K p n q r : ℕ) → N ≡ L + K → q ≤ 3 * L → N + f + n ≤ A + p + H + 4 * h → p + (un + r) ≤ n + (up + q) + 4 * h → un + K ≤ A + up + H + 5 * L
      second N f K p n q r e l x y = omega (arith, h_small, L-pos)

  low-day : 2441317 ≤ k
  low-day = omega (arith, s.after.from, s.day)

  -- the adjusted DUT1, and the answer
  d : Adjusted v vu hu lu b.val b.high b.low k low-day s.until near-day.0 near-day.1 g
  unfolding near_step time_past_leap
  d = adjusted v vu hu lu b.val b.high b.low k low-day s.until near-day.0 near-day.1

  r : Less (sub binary64 u (div binary64 g seconds_per_day)) up un d.gp d.gn
  r = less-dut1 w d.val d.at_most d.at_least

  larger : first_is_kept (julian a u) ≡ true
  larger = first-larger v.val vu (omega (arith, v.low, hu, L-H)) (omega (arith, v.low, lu, L-H))

  fraction-is : utc_fraction rows c a u ≡ answer (sub binary64 u (div binary64 g seconds_per_day))
  unfolding utc_fraction
  fraction-is = went _ adjust_is

  arg : finite_arg c ≡ answer c
  unfolding finite_arg
  arg = ap (λ (z : Bool). cond z (answer c) (refusal 10)) (val-finite-true (size-at-most fc one-L kc).val)

  parts : finite_jd (julian a u) ≡ answer (julian a u)
  unfolding finite_jd
  parts = λ j. cond (val-finite-true v.val j && val-finite-true vu j) (answer (julian a u)) (refusal 9)

  is : ut1_to_utc rows (julian a u) c ≡ answer (julian a (sub binary64 u (div binary64 g seconds_per_day)))
  unfolding ut1_to_utc
  is = went _ arg ∙ went _ parts ∙ kept-changed (utc_fraction rows c) a u _ larger fraction-is

  right : RightUtcNear rows near_ps k (julian a u) c
  right = record {
    x = b.x;
    y = b.y;
    offset = b.val;
    jd2 = sub binary64 u (div binary64 g seconds_per_day);
    is = is;
    p = A + up;
    n = un;
    worth = parts-joined v.val vu;
    early = λ j. let e = d.early j in record {
      p = A + up;
      n = un;
      p' = A + r.p;
      n' = r.n;
      from = parts-joined v.val vu;
      to = parts-joined v.val r.val;
      over = in_ps _ _ (early-over A up un k b.x b.y r.p r.n d.gp d.gn r.over r.under e.1);
      under = in_ps _ _ (early-under A up un k b.x b.y r.p r.n d.gp d.gn r.over r.under e.0);
    };
    on-day = λ j o. let e = d.during j o in record {
      p = A + up;
      n = un;
      p' = A + r.p;
      n' = r.n;
      from = parts-joined v.val vu;
      to = parts-joined v.val r.val;
      over = in_ps_day _ _ (day-over A up un k b.x b.y r.p r.n d.gp d.gn r.over r.under (k * L) e.1);
      under = in_ps_day _ _ (day-under A up un k b.x b.y r.p r.n d.gp d.gn r.over r.under (k * L) e.0);
    };
    late = λ j. let e = d.late j in record {
      p = A + up;
      n = un;
      p' = A + r.p;
      n' = r.n;
      from = parts-joined v.val vu;
      to = parts-joined v.val r.val;
      over = in_ps _ _ (late-over A up un k b.x b.y r.p r.n d.gp d.gn r.over r.under e.1);
      under = in_ps _ _ (late-under A up un k b.x b.y r.p r.n d.gp d.gn r.over r.under e.0);
    };
  }

-- ---- THE THEOREM, by every table that is taken, and by the fixed one
whole-near : {rows : List Row} → WholeTable rows → {d : JulianDate} {k : ℕ} → HalfDaySplit d → LeapFound rows k d → (dut1 : Float) → T (fits binary64 dut1)
    → T (le (abs dut1) one) → RightUtcNear rows near_ps k d dut1
whole-near t {k = k} s o c f l =
    let b = size-at-most s.held.1 one-L s.second in
    right t (first_part s) s.held.1 b.val b.high b.low c f l k o

pub table-ut1-to-utc-near : (t : AnnouncedRows) (rows : List Row) → table_of t ≡ answer rows → {d : JulianDate} {k : ℕ} → HalfDaySplit d → LeapFound rows k d
    → (dut1 : Float) → T (fits binary64 dut1) → T (le (abs dut1) one) → RightUtcNear rows near_ps k d dut1
table-ut1-to-utc-near t rows e s o c f l = whole-near (table-whole t rows e) s o c f l

pub ut1-to-utc-near : {d : JulianDate} {k : ℕ} → HalfDaySplit d → LeapFound fixed k d → (dut1 : Float) → T (fits binary64 dut1) → T (le (abs dut1) one)
    → RightUtcNear fixed near_ps k d dut1
ut1-to-utc-near s o c f l = whole-near fixed-whole s o c f l
