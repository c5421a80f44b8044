-- TAI TO UTC AND BACK, document 02's request 14: for every date whose jd1 is a multiple of 0.5 from 2441319.5 to 5000000.5 and whose jd2 is at most 1 in size,
-- both calls answer, and what comes back is within 173 picoseconds of what was given, and so within a nanosecond. Assumes nothing.
use mathlib.Core.Path.{◌≡◌}
use mathlib.Core.List.{List}
use Prim.Native.Nat.{ℕ, ◌+◌, ◌*◌, ◌≤◌}
use lib.Dec.{lit≤}
use lib.Ieee.{Float}
use Rattle.refusals.specs.Outcome.{answer}
use Rattle.rounding.specs.Value.{Val, L}
use Rattle.leap_table.specs.declared.rows.AnnouncedRows.{AnnouncedRows}
use Rattle.leap_table.specs.rows.Table.{Row, fixed}
use Rattle.leap_table.specs.rows.Announced.{table_of}
use Rattle.julian.specs.declared.JulianDate.{JulianDate}
use Rattle.julian.specs.JulianDate.{julian}
use Rattle.scales.specs.laws.Meaning.{Apart}
use Rattle.scales.proofs.laws.Meant.{more-close}
use Rattle.utc_scales.specs.round_trip.Ranges.{HalfDaySplit}
use Rattle.utc_scales.specs.round_trip.UtcDays.{H}
use Rattle.utc_scales.specs.round_trip.RoundTrip.{ThereAndBack}
use Rattle.utc_scales.proofs.round_trip.Units.{h, L-h}
use Rattle.utc_scales.proofs.round_trip.Picoseconds.{picoseconds_back, over, under}
use Rattle.utc_scales.proofs.round_trip.Parts.{parts-joined, first_part}
use Rattle.utc_scales.proofs.round_trip.DaySeconds.{WholeTable, table-whole, fixed-whole}
use Rattle.utc_scales.proofs.round_trip.Residuals.{end, back_again}
use Rattle.utc_scales.proofs.round_trip.Rounds.{date_seen, offset_seen, tai-near, found}

-- ---- in picoseconds
-- r is what comes back for b
back-apart : {a b r : Float} {A bp bn rp rn : ℕ} → Val a A 0 L → Val b bp bn L → Val r rp rn L → (86400 * (rp + bn) ≤ 86400 * (rn + bp) + back_again * h)
    × (86400 * (rn + bp) ≤ 86400 * (rp + bn) + back_again * h)
    → Apart picoseconds_back (julian a b) (julian a r)
back-apart {a} {b} {r} {A} {bp} {bn} {rp} {rn} va vb vr k = record {
  p = A + bp;
  n = bn;
  p' = A + rp;
  n' = rn;
  from = parts-joined va vb;
  to = parts-joined va vr;
  over = over A bp bn rp rn L h L-h k.0;
  under = under A bp bn rp rn L h L-h k.1;
}

-- ---- THE THEOREM
pub back-within : {rows : List Row} (t : WholeTable rows) {d : JulianDate} (s : HalfDaySplit d)
    → Apart picoseconds_back d (julian d.jd1 (found t (first_part s) s.held.1 s.second).at.seen.t)
back-within t s =
    let v = first_part s in
    let w = found t v s.held.1 s.second in
    let z = w.at.seen in
    back-apart v.val w.given z.val
    (end h L H (s.halves * H) w.bp w.bn z.tp z.tn (date_seen z) (offset_seen z) (tai-near z) w.at.residual)

whole-there-and-back : {rows : List Row} → WholeTable rows → {d : JulianDate} → HalfDaySplit d → ThereAndBack rows picoseconds_back d
whole-there-and-back t {d} s =
    let w = found t (first_part s) s.held.1 s.second in
    let z = w.at.seen in
    record {
      u = julian d.jd1 w.u;
      t = julian d.jd1 z.t;
      there = w.is;
      back = z.answered;
      apart = back-within t s;
    }

-- within 173 picoseconds by every table that is taken, and by the fixed one
pub table-there-and-back : (t : AnnouncedRows) (rows : List Row) → table_of t ≡ answer rows → {d : JulianDate} → HalfDaySplit d
    → ThereAndBack rows picoseconds_back d
table-there-and-back t rows e s = whole-there-and-back (table-whole t rows e) s

pub there-and-back-173 : {d : JulianDate} → HalfDaySplit d → ThereAndBack fixed picoseconds_back d
there-and-back-173 s = whole-there-and-back fixed-whole s

-- REQUEST 14: within a nanosecond
pub there_and_back : {d : JulianDate} → HalfDaySplit d → ThereAndBack fixed 1000 d
there_and_back s =
    let r = there-and-back-173 s in
    record { u = r.u; t = r.t; there = r.there; back = r.back; apart = more-close (lit≤ tt) r.apart }
