-- UT1 to UTC and back from 1972 on, by a DUT1 of at most 1 s, on days with no leap second near: what comes back is within 97 ps. Assumes nothing.
use mathlib.Core.Path.{◌≡◌, sym, subst, subst₂}
use mathlib.Core.List.{List}
use Prim.Native.Nat.{ℕ, suc, ◌+◌, ◌-◌, ◌*◌, ◌≤◌, ◌<◌}
use native.Mathlib.Nat.{add-mul, lt_of_mul-lt-mul_right}
use native.Mathlib.Omega.{arith}
use lib.Dec.{T}
use lib.IntN.{ℤ, pos}
use lib.Ieee.{Float, binary64, sub, div, fits, le}
use lib.Ieee.Fits.{sub-fits}
use Rattle.floats.specs.Whole.{abs, one}
use Rattle.constants.specs.Constants.{seconds_per_day}
use Rattle.rounding.specs.Value.{Val, L}
use Rattle.rounding.proofs.Value.{L-pos, val-unique}
use Rattle.rounding.proofs.Range.{size-at-most}
use Rattle.julian.specs.day_number.DayNumber.{day_of}
use Rattle.julian.proofs.day_number.Units.{one-L}
use Rattle.julian.specs.declared.JulianDate.{JulianDate}
use Rattle.julian.specs.JulianDate.{julian}
use Rattle.rounding.specs.Picoseconds.{day_ps}
use Rattle.scales.specs.laws.Meaning.{Close}
use Rattle.scales.proofs.laws.Meant.{worth-unique}
use Rattle.utc_scales.specs.round_trip.UtcDays.{H, seconds_on, leap_after, short_after, OnDay, ExactDay}
use Rattle.refusals.specs.Outcome.{answer}
use Rattle.leap_table.specs.declared.rows.AnnouncedRows.{AnnouncedRows}
use Rattle.leap_table.specs.rows.Table.{Row, fixed}
use Rattle.leap_table.specs.rows.Announced.{table_of}
use Rattle.utc_scales.specs.round_trip.Ranges.{HalfDaySplit}
use Rattle.utc_scales.proofs.round_trip.Units.{h, L-h, h_small}
use Rattle.utc_scales.proofs.round_trip.Parts.{FirstPart, SecondPart, stamp-of, parts-worth, parts-joined, first_part}
use Rattle.utc_scales.proofs.round_trip.Located.{Located, located}
use Rattle.utc_scales.proofs.round_trip.Meant.{day-of}
use Rattle.utc_scales.specs.ut1_laws.Ut1.{ut1_ps, RightUt1}
use Rattle.utc_scales.specs.ut1_laws.Back.{NoLeapNear, Ut1ThereAndBack}
use Rattle.utc_scales.proofs.round_trip.DaySeconds.{WholeTable, table-whole, fixed-whole}
use Rattle.utc_scales.proofs.ut1_laws.Ut1.{one_answer}
use Rattle.utc_scales.proofs.ut1_laws.Back.{Less, less-dut1, no_step, is}

wide : (p n : ℕ) → p ≤ n + L → 1024 * p ≤ 1024 * n + 1027 * L
wide p n k = omega arith

-- UTC, of about a day and a DUT1
utc-part : (u c : Float) {up un x y : ℕ} → up ≤ un + L → un ≤ up + L → x ≤ y + L → y ≤ x + L
    → (r : Less (sub binary64 u (div binary64 c seconds_per_day)) up un x y) → SecondPart (sub binary64 u (div binary64 c seconds_per_day)) r.p r.n
utc-part u c {up} {un} {x} {y} hu lu hx hy r = record {
  held = sub-fits binary64 _ _;
  val = r.val;
  over = size r.p r.n up un x y hu hy r.over;
  under = size r.n r.p un up y x lu hx r.under;
}
  where
    size : (p n up un x y : ℕ) → up ≤ un + L → y ≤ x + L → 86400 * (p + un) + x ≤ 86400 * (n + up) + y + 86485 * h → 1024 * p ≤ 1024 * n + 1027 * L
    size p n up un x y k l e = omega (arith, h_small)

-- with no leap second at the end of its day UTC to UT1 adds DUT1
added : {ps : ℕ} (s r : ℕ) {d d' : JulianDate} (m x y : ℕ) → s ≡ 0 → r ≡ 0 → Close ps (86400 + s - r) 86400 (x + (s * H + r * m)) (y + (s * m + r * H)) d d'
    → Close ps 86400 86400 (x + (0 * H + 0 * m)) (y + (0 * m + 0 * H)) d d'
added {ps} s r {d} {d'} m x y e g c = subst₂ (λ (s r : ℕ). Close ps (86400 + s - r) 86400 (x + (s * H + r * m)) (y + (s * m + r * H)) d d') e g c

-- ---- the sums: X and Y are DUT1, as x and y are
sums : (A p q P Q p' n' up un x y X Y N : ℕ) → P + q ≡ A + p + Q → x + Y ≡ X + y → 86400 * (p + un) + x ≤ 86400 * (q + up) + y + 86485 * h
    → 86400 * (1 * p' + 1 * un + 0) + (86400 * n' + 86400 * P + (X + (0 * H + 0 * N))) ≤ 86400 * (1 * n' + 1 * (A + up) + 0) +
    (86400 * p' + 86400 * Q + (Y + (0 * N + 0 * H))) +
    86485 * h
sums A p q P Q p' n' up un x y X Y N e g k = omega arith

sums' : (A p q P Q p' n' up un x y X Y N : ℕ) → P + q ≡ A + p + Q → x + Y ≡ X + y → 86400 * (q + up) + y ≤ 86400 * (p + un) + x + 86485 * h
    → 86400 * (1 * n' + 1 * (A + up) + 0) + (86400 * p' + 86400 * Q + (Y + (0 * N + 0 * H))) ≤ 86400 * (1 * p' + 1 * un + 0) +
    (86400 * n' + 86400 * P + (X + (0 * H + 0 * N))) +
    86485 * h
sums' A p q P Q p' n' up un x y X Y N e g k = omega arith

ten : day_ps * (86485 * h) ≤ 10 * (86400 * L)
ten = omega (arith, L-h)

-- 87 ps and 10 ps
in_all : (X Z G K : ℕ) → day_ps * X ≤ day_ps * Z + 87 * (86400 * L) → 86400 * G + Z ≤ 86400 * K + X + 86485 * h → day_ps * G ≤ day_ps * K + 97 * (1 * L)
in_all X Z G K c k = go (day_ps * X) (day_ps * Z) (day_ps * G) (day_ps * K) (day_ps * (86485 * h)) c ten (times G Z K X (86485 * h) k)
  where
    times : (g z k x e : ℕ) → 86400 * g + z ≤ 86400 * k + x + e → 86400 * (day_ps * g) + day_ps * z ≤ 86400 * (day_ps * k) + day_ps * x + day_ps * e
    times g z k x e l = omega arith

    go : (x z g k e : ℕ) → x ≤ z + 87 * (86400 * L) → e ≤ 10 * (86400 * L) → 86400 * g + z ≤ 86400 * k + x + e → g ≤ k + 97 * (1 * L)
    go x z g k e a b c = omega arith

module _ {rows : List Row} (b : WholeTable rows) {a u : Float} {A up un : ℕ} (v : FirstPart a A) (hold : T (fits binary64 u)) (val : Val u up un L)
    (hu : up ≤ un + L) (lu : un ≤ up + L) (n : ℕ)
    (o : OnDay (A + up) un n) (s : NoLeapNear rows n) (c : Float) (fc : T (fits binary64 c)) (kc : T (le (abs c) one))
    (x y : ℕ) (vc : Val c x y L) (hx : x ≤ y + L) (hy : y ≤ x + L) where
  w : SecondPart u up un
  w = record { held = hold; val = val; over = wide up un hu; under = wide un up lu }

  r : Less (sub binary64 u (div binary64 c seconds_per_day)) up un x y
  r = less-dut1 w vc (omega (arith, hx)) (omega (arith, hy))

  w' : SecondPart (sub binary64 u (div binary64 c seconds_per_day)) r.p r.n
  w' = utc-part u c hu lu hx hy r

  z : Located a (sub binary64 u (div binary64 c seconds_per_day)) A r.p r.n
  z = located (stamp-of v w')

  answered : RightUt1 rows ut1_ps (julian a (sub binary64 u (div binary64 c seconds_per_day))) c
  answered = one_answer b v w' c fc kc

  below : z.n < n + 2
  below = lt_of_mul-lt-mul_right L
      (subst (λ (t : ℕ). z.n * L < t) (sym (add-mul n 2 L)) (go (z.n * L) z.f (n * L) o.f r.p r.n o.below o.is r.over z.near-over))
    where
      go : (M f N e p m : ℕ) → e < L → N + e + un ≡ A + up + H → 86400 * (p + un) + x ≤ 86400 * (m + up) + y + 86485 * h → M + f + m ≤ A + p + H + 4 * h
          → M < N + 2 * L
      go M f N e p m b c d l = omega (arith, hy, h_small, L-pos)

  above : n < z.n + 2
  above = lt_of_mul-lt-mul_right L
      (subst (λ (t : ℕ). n * L < t) (sym (add-mul z.n 2 L))
      (go (z.n * L) z.f (n * L) o.f r.p r.n z.below o.is r.under z.near-under))
    where
      go : (M f N e p m : ℕ) → f < L → N + e + un ≡ A + up + H → 86400 * (m + up) + y ≤ 86400 * (p + un) + x + 86485 * h → A + p + H ≤ M + f + m + 4 * h
          → N < M + 2 * L
      go M f N e p m b c d l = omega (arith, hx, h_small, L-pos)

  same-day : z.n ≡ answered.n
  same-day = same (day_of a (sub binary64 u (div binary64 c seconds_per_day))).day z.n answered.n z.day answered.day
    where
      same : (t : ℤ) (n m : ℕ) → t ≡ pos n → t ≡ pos m → n ≡ m
      same t n m p q = cc

  alike : (m : ℕ) → n < m + 2 → m < n + 3 → seconds_on rows m ≡ seconds_on rows (n - 2)
  alike m k l =
      let g = s.from in
      let e : n - 2 + (m - (n - 2)) ≡ m = omega arith in
      subst (λ (j : ℕ). seconds_on rows j ≡ seconds_on rows (n - 2)) e (s.same (m - (n - 2)) (omega arith))

  none : (seconds_on rows (suc z.n) ≡ seconds_on rows (n - 2)) × (seconds_on rows z.n ≡ seconds_on rows (n - 2))
  none =
      let b = below in
      let t = above in
      (alike (suc z.n) (omega arith) (omega arith), alike z.n (omega arith) (omega arith))

  no_leap : (leap_after rows answered.n ≡ 0) × (short_after rows answered.n ≡ 0)
  unfolding leap_after short_after
  no_leap = subst (λ (m : ℕ). (seconds_on rows (suc m) - seconds_on rows m ≡ 0) × (seconds_on rows m - seconds_on rows (suc m) ≡ 0)) same-day
      (go (seconds_on rows (suc z.n)) (seconds_on rows z.n) (seconds_on rows (n - 2)) none.0 none.1)
    where
      go : (x y d : ℕ) → x ≡ d → y ≡ d → (x - y ≡ 0) × (y - x ≡ 0)
      go x y d p q = omega arith

  back-again : Ut1ThereAndBack rows 97 (julian a u) c
  back-again =
      let m = added (leap_after rows answered.n) (short_after rows answered.n) (answered.n * L) answered.x answered.y no_leap.0 no_leap.1
      answered.means in
      record {
        u = julian a (sub binary64 u (div binary64 c seconds_per_day));
        t = answered.date;
        there = is b v w (no_step v w n o s) c x y vc hx hy;
        back = answered.is;
        apart = record {
          p = A + up;
          n = un;
          p' = m.p';
          n' = m.n';
          from = parts-joined v.val val;
          to = m.to;
          over = in_all _ _ _ _ m.over
              (sums A r.p r.n m.p m.n m.p' m.n' up un x y answered.x answered.y (answered.n * L)
              (worth-unique m.from (parts-worth v w')) (val-unique vc answered.offset) r.over);
          under = in_all _ _ _ _ m.under
              (sums' A r.p r.n m.p m.n m.p' m.n' up un x y answered.x answered.y (answered.n * L)
              (worth-unique m.from (parts-worth v w')) (val-unique vc answered.offset) r.under);
        };
      }

-- ---- THE THEOREM
whole-there-and-back : {rows : List Row} → WholeTable rows → {d : JulianDate} {n : ℕ} → HalfDaySplit d → ExactDay d n → NoLeapNear rows n → (dut1 : Float)
    → T (fits binary64 dut1) → T (le (abs dut1) one) → Ut1ThereAndBack rows 97 d dut1
whole-there-and-back t {n = n} s x o c f l =
    let v = first_part s in
    let b = size-at-most s.held.1 one-L s.second in
    let z = size-at-most f one-L l in
    back-again t v s.held.1 b.val b.high b.low n (day-of x (parts-joined v.val b.val)) o c f l z.p z.n z.val z.high z.low

-- by every table that is taken, and by the fixed one
pub table-ut1-there-and-back : (t : AnnouncedRows) (rows : List Row) → table_of t ≡ answer rows → {d : JulianDate} {n : ℕ} → HalfDaySplit d → ExactDay d n
    → NoLeapNear rows n → (dut1 : Float) → T (fits binary64 dut1) → T (le (abs dut1) one) → Ut1ThereAndBack rows 97 d dut1
table-ut1-there-and-back t rows e s x o c f l = whole-there-and-back (table-whole t rows e) s x o c f l

pub ut1-there-and-back : {d : JulianDate} {n : ℕ} → HalfDaySplit d → ExactDay d n → NoLeapNear fixed n → (dut1 : Float) → T (fits binary64 dut1)
    → T (le (abs dut1) one) → Ut1ThereAndBack fixed 97 d dut1
ut1-there-and-back s x o c f l = whole-there-and-back fixed-whole s x o c f l
