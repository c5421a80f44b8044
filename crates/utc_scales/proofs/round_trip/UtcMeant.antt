-- TAI TO UTC MEANS THE EXACT RELATION to 173 picoseconds: the exact TAI of the answer, by the relation of its exact day, lies within 173 ps of the TAI given.
-- Assumes nothing.
use mathlib.Core.Path.{◌≡◌, refl}
use mathlib.Core.List.{List}
use Prim.Native.Nat.{ℕ, ◌+◌, ◌*◌, ◌≤◌, ◌<◌}
use native.Mathlib.Omega.{arith}
use lib.Ieee.{Float}
use Rattle.utc_scales.proofs.round_trip.Residuals.{Residual}
use Rattle.refusals.specs.Outcome.{answer}
use Rattle.rounding.specs.Value.{Val, L}
use Rattle.julian.specs.declared.JulianDate.{JulianDate}
use Rattle.julian.specs.JulianDate.{julian}
use Rattle.leap_table.specs.declared.rows.AnnouncedRows.{AnnouncedRows}
use Rattle.leap_table.specs.rows.Table.{Row, fixed}
use Rattle.leap_table.specs.rows.Announced.{table_of}
use Rattle.rounding.specs.Picoseconds.{day_ps}
use Rattle.utc_scales.specs.UtcTai.{tai_to_utc}
use Rattle.utc_scales.specs.round_trip.Ranges.{HalfDaySplit}
use Rattle.utc_scales.specs.round_trip.UtcDays.{H, WholeSeconds, OnDay, ExactDay}
use Rattle.utc_scales.specs.round_trip.Relation.{RightUtc}
use Rattle.utc_scales.proofs.round_trip.Units.{h, L-h}
use Rattle.utc_scales.proofs.round_trip.Parts.{Stamp, stamp-of, parts-joined, parts-worth, first_part}
use Rattle.utc_scales.proofs.round_trip.DaySeconds.{WholeTable, table-whole, fixed-whole}
use Rattle.utc_scales.proofs.round_trip.Steady.{tai_utc_at}
use Rattle.utc_scales.proofs.round_trip.Evaluated.{SeenTo}
use Rattle.utc_scales.proofs.round_trip.Meant.{on-day, OffsetsNear, near-offset, exact-low, exact-high, seconds}
use Rattle.utc_scales.proofs.round_trip.Rounds.{date_seen, offset_seen, found, part}
use Rattle.utc_scales.proofs.round_trip.Exactly.{Said, means-of}

-- ---- a guess u of the UTC of (a, b), whose residual is at most P, on its exact day: W is its date by that day, x the one that the calendar finds; K and G
-- their offsets
over : (A bp bn W x K G P : ℕ) → x ≤ W + 4 * h → G ≤ K + 4 * h → 86400 * (bp + A + H) ≤ 86400 * bn + (86400 * x + G) + P
    → 86400 * (A + bp + H) ≤ 86400 * bn + 86400 * W + K + (P + 345604 * h)
over A bp bn W x K G P k l m = omega arith

under : (A bp bn W x K G P : ℕ) → W ≤ x + 4 * h → K ≤ G + 4 * h → 86400 * bn + (86400 * x + G) ≤ 86400 * (bp + A + H) + P
    → 86400 * bn + 86400 * W + K ≤ 86400 * (A + bp + H) + (P + 345604 * h)
under A bp bn W x K G P k l m = omega arith

module _ {rows : List Row} (t : WholeTable rows) {a b u : Float} {A bp bn up un E P : ℕ} (v : Stamp a u A up un) (vb : Val b bp bn L)
    (z : SeenTo rows E a u A up un)
    (r : Residual H A bp bn (date_seen z) (offset_seen z) P) (ps : ℕ) (room : day_ps * (P + 345604 * h) ≤ 86400 * (ps * L)) (n : ℕ)
    (o : OnDay (A + up) un n) where
  apart : (z.day * L + z.f ≤ n * L + o.f + 4 * h) × (n * L + o.f ≤ z.day * L + z.f + 4 * h)
  apart = go (z.day * L + z.f) (n * L + o.f) z.near-over z.near-under o.is
    where
      go : (p q : ℕ) → p + un ≤ A + up + H + 4 * h → A + up + H ≤ p + un + 4 * h → q + un ≡ A + up + H → (p ≤ q + 4 * h) × (q ≤ p + 4 * h)
      go p q i j k = omega arith

  near : OffsetsNear (tai_utc_at rows z.day z.f) (tai_utc_at rows n o.f)
  near = near-offset z.day n z.f o.f z.seconds (seconds v n o t) z.below o.below apart.0 apart.1

  in_picoseconds : (x y : ℕ) → x ≤ y + (P + 345604 * h) → day_ps * x ≤ day_ps * y + 86400 * (ps * L)
  in_picoseconds x y k = omega (arith, room)

  pub guess_said : Said rows ps n o.f (julian a b)
  guess_said = record {
    p = A + bp;
    m = bn;
    worth = parts-joined v.val1 vb;
    over = in_picoseconds _ _ (over A bp bn (n * L + o.f) (z.day * L + z.f) (tai_utc_at rows n o.f) (tai_utc_at rows z.day z.f) P apart.0
        near.over
        r.high);
    under = in_picoseconds _ _ (under A bp bn (n * L + o.f) (z.day * L + z.f) (tai_utc_at rows n o.f) (tai_utc_at rows z.day z.f) P apart.1
        near.under
        r.low);
  }

-- ---- TAI to UTC of d is `date`, on the exact day n, of which d is the TAI to 173 ps
pub record UtcFound (rows : List Row) (d : JulianDate) : Type 0 where
  pub date : JulianDate
  pub is : tai_to_utc rows d ≡ answer date
  pub same : date.jd1 ≡ d.jd1
  pub n : ℕ
  pub on : ExactDay date n
  pub low : 2441318 ≤ n
  pub high : n < 5000003
  pub seconds : WholeSeconds rows n
  pub said : Said rows 173 n on.on.f d

pub utc-found : {rows : List Row} → WholeTable rows → {d : JulianDate} → HalfDaySplit d → UtcFound rows d
utc-found t {d} s =
    let v = first_part s in
    let r = found t v s.held.1 s.second in
    let x = r.at in
    let o = on-day (stamp-of v (part x)) in
    record {
      date = julian d.jd1 r.u;
      is = r.is;
      same = refl;
      n = o.0;
      on = record { p = _; m = _; worth = parts-worth v (part x); on = o.1 };
      low = exact-low (stamp-of v (part x)) o.0 o.1;
      high = exact-high (stamp-of v (part x)) o.0 o.1;
      seconds = seconds (stamp-of v (part x)) o.0 o.1 t;
      said = guess_said t (stamp-of v (part x)) r.given x.seen x.residual 173 (omega (arith, L-h)) o.0 o.1;
    }

-- ---- THE THEOREM, by every table that is taken, and by the fixed one
pub whole-tai-to-utc-means : {rows : List Row} → WholeTable rows → {d : JulianDate} → HalfDaySplit d → RightUtc rows 173 d
whole-tai-to-utc-means t s =
    let x = utc-found t s in
    record { date = x.date; is = x.is; n = x.n; on = x.on; means = means-of x.seconds x.on x.said }

pub table-tai-to-utc-means : (t : AnnouncedRows) (rows : List Row) → table_of t ≡ answer rows → {d : JulianDate} → HalfDaySplit d → RightUtc rows 173 d
table-tai-to-utc-means t rows e s = whole-tai-to-utc-means (table-whole t rows e) s

pub tai-to-utc-means : {d : JulianDate} → HalfDaySplit d → RightUtc fixed 173 d
tai-to-utc-means s = whole-tai-to-utc-means fixed-whole s
