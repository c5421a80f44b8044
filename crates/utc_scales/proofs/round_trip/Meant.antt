-- UTC TO TAI MEANS THE EXACT RELATION to 77 picoseconds, from 1972 to 8977, where jd1 is a whole number of half days and jd2 is at most a day in size. Assumes
-- nothing.
use mathlib.Core.Path.{◌≡◌}
use mathlib.Core.List.{List}
use mathlib.Core.Logic.{◌⊎◌, inl, inr}
use Prim.Native.Nat.{ℕ, suc, ◌+◌, ◌-◌, ◌*◌, ◌/◌, ◌%◌, ◌≤◌, ◌<◌}
use native.Mathlib.Nat.{lt_of_mul-lt-mul_right, div-add-mod', mod-lt}
use native.Mathlib.Omega.{arith}
use lib.Ieee.{Float}
use Rattle.rounding.specs.Value.{L}
use Rattle.rounding.proofs.Value.{L-pos}
use Rattle.julian.specs.declared.JulianDate.{JulianDate}
use Rattle.julian.specs.JulianDate.{julian}
use Rattle.julian.specs.Worth.{Worth}
use Rattle.refusals.specs.Outcome.{answer}
use Rattle.leap_table.specs.declared.rows.AnnouncedRows.{AnnouncedRows}
use Rattle.leap_table.specs.rows.Table.{Row, fixed}
use Rattle.leap_table.specs.rows.Announced.{table_of}
use Rattle.rounding.specs.Picoseconds.{day_ps}
use Rattle.scales.proofs.laws.Meant.{Meant, worth-unique}
use Rattle.utc_scales.specs.UtcTai.{utc_to_tai}
use Rattle.utc_scales.specs.round_trip.Ranges.{HalfDaySplit}
use Rattle.utc_scales.specs.round_trip.UtcDays.{H, seconds_on, Ending, ends_plain, ends_longer, ends_shorter, WholeSeconds, OnDay, ExactDay}
use Rattle.utc_scales.specs.round_trip.Relation.{tai_over_utc, RightTai}
use Rattle.utc_scales.proofs.round_trip.Units.{h, L-H, L-h, h_small, next_midnight}
use Rattle.utc_scales.proofs.round_trip.Parts.{Stamp, stamp-of, parts-joined, parts-worth, first_part, second-part}
use Rattle.utc_scales.proofs.round_trip.DaySeconds.{WholeTable, table-whole, fixed-whole}
use Rattle.utc_scales.proofs.round_trip.Steady.{tai_utc_at, Slow, either, share_less}
use Rattle.utc_scales.proofs.round_trip.Evaluated.{SeenTo, seen}

-- ---- each date lies on a day
pub on-day : {a u : Float} {A up un : ℕ} → Stamp a u A up un → (n : ℕ) × OnDay (A + up) un n
on-day {A = A} {up} {un} z =
    let X = A + up + H - un in
    (X / L, record { f = X % L; below = mod-lt X L-pos; is = go (X / L * L) (X % L) (div-add-mod' X L) })
  where
    go : (q r : ℕ) → q + r ≡ A + up + H - un → q + r + un ≡ A + up + H
    go q r e = omega (arith, z.low)

-- ---- two instants within 4 h of each other have TAI-UTC within 4 h / 86400
pub record OffsetsNear (G K : ℕ) : Type 0 where
  pub over : G ≤ K + 4 * h
  pub under : K ≤ G + 4 * h

pub near-offset : {rows : List Row} (n m f e : ℕ) → WholeSeconds rows n → WholeSeconds rows m → f < L → e < L → n * L + f ≤ m * L + e + 4 * h
    → m * L + e ≤ n * L + f + 4 * h
    → OffsetsNear (tai_utc_at rows n f) (tai_utc_at rows m e)
near-offset {rows} n m f e t r b c k l = go (either n m f e t r b c (day-less (m * L + e) (n * L + f) l) (day-less (n * L + f) (m * L + e) k))
  where
    day-less : (x y : ℕ) → x ≤ y + 4 * h → x < y + L
    day-less x y q = omega (arith, h_small, L-pos)

    end : {x y G K : ℕ} → Slow x G y K → y ≤ x + 4 * h → (G ≤ K + 4 * h) × (K ≤ G + 4 * h)
    end q g = omega arith

    go : Slow (n * L + f) (tai_utc_at rows n f) (m * L + e) (tai_utc_at rows m e) ⊎ Slow (m * L + e) (tai_utc_at rows m e) (n * L + f) (tai_utc_at rows n f)
        → OffsetsNear (tai_utc_at rows n f) (tai_utc_at rows m e)
    go (inl q) = let x = end q l in record { over = x.0; under = x.1 }
    go (inr q) = let x = end q k in record { over = x.1; under = x.0 }

-- ---- the relation without its products: N is n L, d is D L, e the fraction of the exact day, and S what is missed
over-is : {s r : ℕ} (d N e A up un tp tn S : ℕ) → Ending s r → r * e ≤ d → N + e + un ≡ A + up + H
    → 86400 * (tp + A + H) ≤ 86400 * tn + (86400 * (N + e) + (d + s * e - r * e)) + S
    → 86400 * (A + tp) + (86400 + s - r) * un + (s * N + r * H) ≤ 86400 * tn + (86400 + s - r) * (A + up) + (d + (s * H + r * N)) + S
over-is d N e A up un tp tn S ends_plain k i l = omega arith
over-is d N e A up un tp tn S ends_longer k i l = omega arith
over-is d N e A up un tp tn S ends_shorter k i l = omega arith

under-is : {s r : ℕ} (d N e A up un tp tn S : ℕ) → Ending s r → r * e ≤ d → N + e + un ≡ A + up + H
    → 86400 * (N + e) + (d + s * e - r * e) + 86400 * tn ≤ 86400 * (tp + A + H) + S
    → 86400 * tn + (86400 + s - r) * (A + up) + (d + (s * H + r * N)) ≤ 86400 * (A + tp) + (86400 + s - r) * un + (s * N + r * H) + S
under-is d N e A up un tp tn S ends_plain k i l = omega arith
under-is d N e A up un tp tn S ends_longer k i l = omega arith
under-is d N e A up un tp tn S ends_shorter k i l = omega arith

-- in picoseconds
to-picoseconds : (x y S P : ℕ) → day_ps * S ≤ P → x ≤ y + S → day_ps * x ≤ day_ps * y + P
to-picoseconds x y S P k l = omega arith

-- ---- the exact day is one of whole seconds
module _ {a u : Float} {A up un : ℕ} (z : Stamp a u A up un) (n : ℕ) (o : OnDay (A + up) un n) where
  pub exact-low : 2441318 ≤ n
  exact-low = lt_of_mul-lt-mul_right L (first (n * L) o.f o.below o.is)
    where
      first : (N f : ℕ) → f < L → N + f + un ≡ A + up + H → 2441317 * L < N
      first N f b c = omega (arith, z.low, L-H, L-pos)

  pub exact-high : n < 5000003
  exact-high = lt_of_mul-lt-mul_right L (last (n * L) o.f o.is)
    where
      last : (N f : ℕ) → N + f + un ≡ A + up + H → N < 5000003 * L
      last N f c = omega (arith, z.high, L-H, L-pos)

  pub seconds : {rows : List Row} → WholeTable rows → WholeSeconds rows n
  seconds t = t.whole n exact-low (omega (arith, exact-high))

-- ---- an evaluation that is off by at most E / 86400, on the exact day: its answer means the relation to ps picoseconds
module _ {rows : List Row} (t : WholeTable rows) {a u : Float} {A up un E : ℕ} (z : Stamp a u A up un) (x : SeenTo rows E a u A up un) (ps : ℕ)
    (room : day_ps * (E + 345604 * h) ≤ ps * (86400 * L))
    (n : ℕ) (o : OnDay (A + up) un n) where
  apart : (x.day * L + x.f ≤ n * L + o.f + 4 * h) × (n * L + o.f ≤ x.day * L + x.f + 4 * h)
  apart = go (x.day * L + x.f) (n * L + o.f) x.near-over x.near-under o.is
    where
      go : (p q : ℕ) → p + un ≤ A + up + H + 4 * h → A + up + H ≤ p + un + 4 * h → q + un ≡ A + up + H → (p ≤ q + 4 * h) × (q ≤ p + 4 * h)
      go p q b c d = omega arith

  near : OffsetsNear (tai_utc_at rows x.day x.f) (tai_utc_at rows n o.f)
  near = near-offset x.day n x.f o.f x.seconds (seconds z n o t) x.below o.below apart.0 apart.1

  eval_over : 86400 * (x.tp + A + H) ≤ 86400 * x.tn + (86400 * (n * L + o.f) + tai_utc_at rows n o.f) + (E + 345604 * h)
  eval_over = go (x.day * L + x.f) (n * L + o.f) (tai_utc_at rows x.day x.f) (tai_utc_at rows n o.f) x.eval_over apart.0 near.over
    where
      go : (p q G K : ℕ) → 86400 * (x.tp + A + H) ≤ 86400 * x.tn + (86400 * p + G) + E → p ≤ q + 4 * h → G ≤ K + 4 * h
          → 86400 * (x.tp + A + H) ≤ 86400 * x.tn + (86400 * q + K) + (E + 345604 * h)
      go p q G K i j k = omega arith

  eval_under : 86400 * (n * L + o.f) + tai_utc_at rows n o.f + 86400 * x.tn ≤ 86400 * (x.tp + A + H) + (E + 345604 * h)
  eval_under = go (x.day * L + x.f) (n * L + o.f) (tai_utc_at rows x.day x.f) (tai_utc_at rows n o.f) x.eval_under apart.1 near.under
    where
      go : (p q G K : ℕ) → 86400 * p + G + 86400 * x.tn ≤ 86400 * (x.tp + A + H) + E → q ≤ p + 4 * h → K ≤ G + 4 * h
          → 86400 * q + K + 86400 * x.tn ≤ 86400 * (x.tp + A + H) + (E + 345604 * h)
      go p q G K i j k = omega arith

  pub utc-meant : Meant ps (tai_over_utc rows n) (utc_to_tai rows (julian a u)) (julian a u)
  utc-meant = record {
    date = julian a x.t;
    is = x.answered;
    means = record {
      p = A + up;
      n = un;
      p' = A + x.tp;
      n' = x.tn;
      from = parts-joined z.val1 z.val2;
      to = parts-joined z.val1 x.val;
      over = to-picoseconds _ _ (E + 345604 * h) (ps * (86400 * L)) room
          (over-is (seconds_on rows n * L) (n * L) o.f A up un x.tp x.tn (E + 345604 * h) (seconds z n o t).ending
          (share_less n o.f (seconds z n o t) o.below) o.is eval_over);
      under = to-picoseconds _ _ (E + 345604 * h) (ps * (86400 * L)) room
          (under-is (seconds_on rows n * L) (n * L) o.f A up un x.tp x.tn (E + 345604 * h) (seconds z n o t).ending
          (share_less n o.f (seconds z n o t) o.below) o.is eval_under);
    };
  }

-- ---- the exact day of a date, and that there is one only
pub stamp-day : {d : JulianDate} → HalfDaySplit d → (n : ℕ) × ExactDay d n
stamp-day s = let w = second-part s in let o =
    on-day (stamp-of (first_part s) w.2) in (o.0, record { p = _; m = _; worth = parts-worth (first_part s) w.2; on = o.1 })

-- the day by another pair for the date's value
unfoldable pub day-of : {d : JulianDate} {n p m : ℕ} → ExactDay d n → Worth d p m L → OnDay p m n
day-of {n = n} {p} {m} x w = record { f = x.on.f; below = x.on.below; is = go (n * L) x.on.f x.p x.m x.on.is (worth-unique x.worth w) }
  where
    go : (N f q k : ℕ) → N + f + k ≡ q + H → q + m ≡ p + k → N + f + m ≡ p + H
    go N f q k e g = omega arith

pub one-day : {d : JulianDate} {n m : ℕ} → ExactDay d n → ExactDay d m → n ≡ m
one-day {n = n} {m} x y = let o = day-of x y.worth in same n m (day_ps n m o y.on) (day_ps m n y.on o)
  where
    day_ps : {p k : ℕ} (n m : ℕ) → OnDay p k n → OnDay p k m → n < suc m
    day_ps {p} {k} n m o q = lt_of_mul-lt-mul_right L (go (n * L) (m * L) o.f q.f (next_midnight m) q.below o.is q.is)
      where
        go : (N M f e : ℕ) {M' : ℕ} → M' ≡ L + M → e < L → N + f + k ≡ p + H → M + e + k ≡ p + H → N < M'
        go N M f e r b i j = omega arith

    same : (n m : ℕ) → n < suc m → m < suc n → n ≡ m
    same n m a b = omega arith

-- it is a day of whole seconds
pub day-seconds-of : {rows : List Row} → WholeTable rows → {d : JulianDate} {n : ℕ} → HalfDaySplit d → ExactDay d n → WholeSeconds rows n
day-seconds-of t {n = n} s x = let w = second-part s in seconds (stamp-of (first_part s) w.2) n (day-of x (parts-worth (first_part s) w.2)) t

-- ---- THE THEOREM
-- on the exact day of the date
pub utc-means-on : {rows : List Row} → WholeTable rows → {d : JulianDate} {n : ℕ} → HalfDaySplit d → ExactDay d n
    → Meant 77 (tai_over_utc rows n) (utc_to_tai rows d) d
utc-means-on t {n = n} s x = let w =
    second-part s in utc-meant t (stamp-of (first_part s) w.2) (seen t (first_part s) w.2) 77 (omega (arith, L-h)) n
    (day-of x (parts-worth (first_part s) w.2))

pub whole-utc-to-tai-means : {rows : List Row} → WholeTable rows → {d : JulianDate} → HalfDaySplit d → RightTai rows 77 d
whole-utc-to-tai-means t s = let x = stamp-day s in let r = utc-means-on t s x.1 in record
    { n = x.0; on = x.1; date = r.date; is = r.is; means = r.means }

-- by every table that is taken, and by the fixed one
pub table-utc-to-tai-means : (t : AnnouncedRows) (rows : List Row) → table_of t ≡ answer rows → {d : JulianDate} → HalfDaySplit d → RightTai rows 77 d
table-utc-to-tai-means t rows e s = whole-utc-to-tai-means (table-whole t rows e) s

pub utc-to-tai-means : {d : JulianDate} → HalfDaySplit d → RightTai fixed 77 d
utc-to-tai-means s = whole-utc-to-tai-means fixed-whole s
