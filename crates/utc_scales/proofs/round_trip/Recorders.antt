-- ONE INSTANT ON THREE RECORDERS: a stamp g by GPS, t by TAI and u by UTC of one instant to e ps come out in TAI pairwise within 10 + e, 77 + e and 87 + e ps.
-- Assumes nothing.
use mathlib.Core.Path.{◌≡◌, refl, sym, ap, ◌∙◌}
use mathlib.Core.List.{List}
use Prim.Native.Nat.{ℕ, ◌+◌, ◌*◌, ◌%◌, ◌/◌, ◌≤◌, ◌-◌}
use native.Mathlib.Nat.{mul-add, add-mul, mul_left_comm, mul_assoc, one-mul, zero-mul, div-add-mod'}
use native.Mathlib.Omega.{arith}
use Rattle.refusals.specs.Outcome.{answer}
use Rattle.rounding.specs.Value.{L}
use Rattle.julian.specs.declared.JulianDate.{JulianDate}
use Rattle.leap_table.specs.declared.rows.AnnouncedRows.{AnnouncedRows}
use Rattle.leap_table.specs.rows.Table.{Row, fixed}
use Rattle.leap_table.specs.rows.Announced.{table_of}
use Rattle.scales.specs.Conversions.{gps-tai, answer_of}
use Rattle.scales.specs.laws.Ranges.{Practical}
use Rattle.rounding.specs.Picoseconds.{day_ps}
use Rattle.scales.specs.laws.Meaning.{Apart, Means, tai_over_gps}
use Rattle.scales.proofs.laws.Meant.{worth-unique, more-close}
use Rattle.scales.proofs.laws.Recorders.{one-relation, gps-means}
use Rattle.utc_scales.specs.UtcTai.{utc_to_tai}
use Rattle.utc_scales.specs.round_trip.Ranges.{HalfDaySplit}
use Rattle.utc_scales.specs.round_trip.UtcDays.{H, seconds_on, leap_after, short_after, ExactDay}
use Rattle.utc_scales.specs.round_trip.Relation.{tai_over_utc, gps_over_utc}
use Rattle.utc_scales.specs.round_trip.Recorders.{OneInstant, Agree}
use Rattle.utc_scales.proofs.round_trip.DaySeconds.{WholeTable, table-whole, fixed-whole}
use Rattle.utc_scales.proofs.round_trip.Meant.{utc-means-on}

-- ---- g by GPS and u by UTC, with no stamp by TAI: x = g + 19 s to 10 ps and y the TAI of u to 77 ps
pub by_both : (rows : List Row) (n e : ℕ) {g u x y : JulianDate} → Means e (gps_over_utc rows n) u g → Means 10 tai_over_gps g x
    → Means 77 (tai_over_utc rows n) u y → Apart (87 + e) x y
by_both rows n e v x y =
    let k = 86400 + leap_after rows n - short_after rows n in
    let o = worth-unique v.from y.from in
    let s = sym (mul-add k v.p y.n) ∙ ap (λ (z : ℕ). k * z) o ∙ mul-add k y.p v.n in
    record {
      p = x.p';
      n = x.n';
      p' = y.p';
      n' = y.n';
      from = x.to;
      to = y.to;
      over = high (k * v.p) (k * v.n) (k * y.p) (k * y.n) v.p' v.n' x.p x.n x.p' x.n' y.p' y.n'
          (seconds_on rows n * L + (leap_after rows n * H + short_after rows n * (n * L))) (leap_after rows n * (n * L) + short_after rows n * H) (e * L)
          (out k v.p) (out k v.n) (mul_left_comm e 7464960000 L) bound s (worth-unique v.to x.from) v.under x.under y.over;
      under = low (k * v.p) (k * v.n) (k * y.p) (k * y.n) v.p' v.n' x.p x.n x.p' x.n' y.p' y.n'
          (seconds_on rows n * L + (leap_after rows n * H + short_after rows n * (n * L))) (leap_after rows n * (n * L) + short_after rows n * H) (e * L)
          (out k v.p) (out k v.n) (mul_left_comm e 7464960000 L) bound s (worth-unique v.to x.from) v.over x.over y.under;
    }
  where
    out : (k p : ℕ) → k * 86400 * p ≡ 86400 * (k * p)
    out k p = mul_assoc k 86400 p ∙ mul_left_comm k 86400 p

    bound : (87 + e) * (1 * L) ≡ 87 * L + e * L
    bound = ap (λ (z : ℕ). (87 + e) * z) (one-mul L) ∙ add-mul 87 e L

    high : (p n q m g g' h h' x x' y y' M S c : ℕ) {P N c' z : ℕ} → P ≡ 86400 * p → N ≡ 86400 * n → c' ≡ 7464960000 * c → z ≡ 87 * L + c → p + m ≡ q + n
        → g + h' ≡ h + g'
        → day_ps * (7464960000 * g' + P + (86400 * M + 86400 * 0)) ≤ day_ps * (7464960000 * g + N + (86400 * S + 86400 * (19 * L))) + c'
        → day_ps * (86400 * x' + 86400 * h + 19 * L) ≤ day_ps * (86400 * x + 86400 * h' + 0) + 10 * (86400 * L)
        → day_ps * (86400 * y + m + S) ≤ day_ps * (86400 * y' + q + M) + 77 * (86400 * L) → day_ps * (1 * y + 1 * x' + 0) ≤ day_ps * (1 * y' + 1 * x + 0) + z
    high p n q m g g' h h' x x' y y' M S c a b d f i j k l o = omega arith

    low : (p n q m g g' h h' x x' y y' M S c : ℕ) {P N c' z : ℕ} → P ≡ 86400 * p → N ≡ 86400 * n → c' ≡ 7464960000 * c → z ≡ 87 * L + c → p + m ≡ q + n
        → g + h' ≡ h + g'
        → day_ps * (7464960000 * g + N + (86400 * S + 86400 * (19 * L))) ≤ day_ps * (7464960000 * g' + P + (86400 * M + 86400 * 0)) + c'
        → day_ps * (86400 * x + 86400 * h' + 0) ≤ day_ps * (86400 * x' + 86400 * h + 19 * L) + 10 * (86400 * L)
        → day_ps * (86400 * y' + q + M) ≤ day_ps * (86400 * y + m + S) + 77 * (86400 * L) → day_ps * (1 * y' + 1 * x + 0) ≤ day_ps * (1 * y + 1 * x' + 0) + z
    low p n q m g g' h h' x x' y y' M S c a b d f i j k l o = omega arith

-- ---- THE THEOREM, by a table of whole seconds
whole-recorders : {rows : List Row} → WholeTable rows → (e : ℕ) (g t : JulianDate) {u : JulianDate} → Practical g → HalfDaySplit u → OneInstant rows e g t u
    → Agree rows e g t u
whole-recorders {rows} b e g t r s i =
    let x = gps-means g r in
    let y = utc-means-on b s i.on in
    record {
      x = x.date;
      y = y.date;
      from_gps = x.is;
      from_utc = y.is;
      gps_tai_apart = one-relation 10 e i.by_gps x.means;
      utc_tai_apart = one-relation 77 e i.by_utc y.means;
      gps_utc_apart = by_both rows i.n e i.gps_by_utc x.means y.means;
    }

-- by every table that is taken, and by the fixed one
pub table-three-recorders : (b : AnnouncedRows) (rows : List Row) → table_of b ≡ answer rows → (e : ℕ) (g t : JulianDate) {u : JulianDate} → Practical g
    → HalfDaySplit u → OneInstant rows e g t u → Agree rows e g t u
table-three-recorders b rows k e g t r s i = whole-recorders (table-whole b rows k) e g t r s i

pub three-recorders : (e : ℕ) (g t : JulianDate) {u : JulianDate} → Practical g → HalfDaySplit u → OneInstant fixed e g t u → Agree fixed e g t u
three-recorders e g t r s i = whole-recorders fixed-whole e g t r s i

-- two recorders alone. With e = 0: stamps by GPS and UTC of exactly one instant come out within 87 ps, and by TAI and UTC within 77 ps
pub gps-and-utc : (e : ℕ) (g : JulianDate) {u : JulianDate} {n : ℕ} → Practical g → HalfDaySplit u → ExactDay u n → Means e (gps_over_utc fixed n) u g
    → (x : JulianDate) × (y : JulianDate) × (answer_of gps-tai g ≡ answer x) × (utc_to_tai fixed u ≡ answer y) × Apart (87 + e) x y
gps-and-utc e g {n = n} r s o m =
    let x = gps-means g r in
    let y = utc-means-on fixed-whole s o in
    (x.date, y.date, x.is, y.is, by_both fixed n e m x.means y.means)

pub tai-and-utc : (e : ℕ) (t : JulianDate) {u : JulianDate} {n : ℕ} → HalfDaySplit u → ExactDay u n → Means e (tai_over_utc fixed n) u t → (y : JulianDate)
    × (utc_to_tai fixed u ≡ answer y) × Apart (77 + e) t y
tai-and-utc e t s o m = let y = utc-means-on fixed-whole s o in (y.date, y.is, one-relation 77 e m y.means)

-- ---- one instant by its TAI stamp: g and u to e ps of t are of one instant to 2 e ps
pub by_tai : {rows : List Row} (n e : ℕ) {g t u : JulianDate} → ExactDay u n → Means e tai_over_gps g t → Means e (tai_over_utc rows n) u t
    → OneInstant rows (e + e) g t u
by_tai {rows} n e o v w = record {
  n = n;
  on = o;
  by_gps = more-close (twice e) v;
  by_utc = more-close (twice e) w;
  gps_by_utc =
      let k = 86400 + leap_after rows n - short_after rows n in
      record {
        p = w.p;
        n = w.n;
        p' = v.p;
        n' = v.n;
        from = w.from;
        to = v.from;
        over = high (k * w.p) (k * w.n) w.p' w.n' v.p' v.n' v.p v.n
            (seconds_on rows n * L + (leap_after rows n * H + short_after rows n * (n * L))) (leap_after rows n * (n * L) + short_after rows n * H) (e * L)
            (out k w.p) (out k w.n) (mul_left_comm e 86400 L) both (worth-unique w.to v.to) w.over v.under;
        under = low (k * w.p) (k * w.n) w.p' w.n' v.p' v.n' v.p v.n
            (seconds_on rows n * L + (leap_after rows n * H + short_after rows n * (n * L))) (leap_after rows n * (n * L) + short_after rows n * H) (e * L)
            (out k w.p) (out k w.n) (mul_left_comm e 86400 L) both (worth-unique w.to v.to) w.under v.over;
      };
}
  where
    out : (k p : ℕ) → k * 86400 * p ≡ 86400 * (k * p)
    out k p = mul_assoc k 86400 p ∙ mul_left_comm k 86400 p

    both : (e + e) * (7464960000 * L) ≡ 7464960000 * (e * L) + 7464960000 * (e * L)
    both = add-mul e e (7464960000 * L) ∙ (λ i. mul_left_comm e 7464960000 L i + mul_left_comm e 7464960000 L i)

    twice : (e : ℕ) → e ≤ e + e
    twice e = omega arith

    high : (p n t t' r r' g g' M S c : ℕ) {P N c' z : ℕ} → P ≡ 86400 * p → N ≡ 86400 * n → c' ≡ 86400 * c → z ≡ 7464960000 * c + 7464960000 * c
        → t + r' ≡ r + t'
        → day_ps * (86400 * t + n + S) ≤ day_ps * (86400 * t' + p + M) + c'
        → day_ps * (86400 * r' + 86400 * g + 19 * L) ≤ day_ps * (86400 * r + 86400 * g' + 0) + c'
        → day_ps * (7464960000 * g + N + (86400 * S + 86400 * (19 * L))) ≤ day_ps * (7464960000 * g' + P + (86400 * M + 86400 * 0)) + z
    high p n t t' r r' g g' M S c a b d f i j k = omega arith

    low : (p n t t' r r' g g' M S c : ℕ) {P N c' z : ℕ} → P ≡ 86400 * p → N ≡ 86400 * n → c' ≡ 86400 * c → z ≡ 7464960000 * c + 7464960000 * c → t + r' ≡ r + t'
        → day_ps * (86400 * t' + p + M) ≤ day_ps * (86400 * t + n + S) + c'
        → day_ps * (86400 * r + 86400 * g' + 0) ≤ day_ps * (86400 * r' + 86400 * g + 19 * L) + c'
        → day_ps * (7464960000 * g' + P + (86400 * M + 86400 * 0)) ≤ day_ps * (7464960000 * g + N + (86400 * S + 86400 * (19 * L))) + z
    low p n t t' r r' g g' M S c a b d f i j k = omega arith

-- ---- to 0 ps no stamp by GPS and stamp by TAI are of one instant: 19 s is no whole number of 2 ^ -1074 day
L-thirds : L % 3 ≡ 1
unfolding L
L-thirds = refl

pub never-exact : {g t : JulianDate} → Means 0 tai_over_gps g t → ⊥
never-exact w = go w.p w.n w.p' w.n' (L / 3) (L % 3) (0 * (86400 * L)) (div-add-mod' L 3) L-thirds (zero-mul (86400 * L)) w.over w.under
  where
    go : (p n p' n' q r z : ℕ) → q * 3 + r ≡ L → r ≡ 1 → z ≡ 0 → day_ps * (86400 * p' + 86400 * n + 0) ≤ day_ps * (86400 * n' + 86400 * p + 19 * L) + z
        → day_ps * (86400 * n' + 86400 * p + 19 * L) ≤ day_ps * (86400 * p' + 86400 * n + 0) + z → ⊥
    go p n p' n' q r z e f g j k =
        let x : 86400 * p' + 86400 * n ≡ 86400 * n' + 86400 * p + 19 * L = same (86400 * p' + 86400 * n) (86400 * n' + 86400 * p + 19 * L) z g j k in
        thirds (p' + n) (n' + p) q L (omega arith) (omega arith)
      where
        none : (x y : ℕ) → 3 * x ≡ 3 * y + 1 → ⊥
        none x y e = omega arith

        same : (x y z : ℕ) → z ≡ 0 → day_ps * (x + 0) ≤ day_ps * y + z → day_ps * y ≤ day_ps * (x + 0) + z → x ≡ y
        same x y z e k l = omega arith

        thirds : (x y q Q : ℕ) → 3 * q + 1 ≡ Q → 86400 * x ≡ 86400 * y + 19 * Q → ⊥
        thirds x y q Q e g = none (28800 * x) (28800 * y + 19 * q + 6) (omega arith)
