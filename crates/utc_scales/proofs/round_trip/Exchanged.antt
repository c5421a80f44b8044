-- THE PARTS EXCHANGED: the theorems hold of the same dates with jd2 for jd1 and jd1 for jd2, since the larger part comes first wherever it stands. Assumes
-- nothing.
use mathlib.Core.Path.{◌≡◌, sym, ap, ◌∙◌}
use mathlib.Core.List.{List}
use mathlib.Core.Bool.{Bool, true, false}
use Prim.Native.Nat.{ℕ, ◌+◌, ◌*◌, ◌≤◌, ◌<◌}
use native.Mathlib.Omega.{arith}
use borrow.Author.Tests.{lt-leb}
use lib.Dec.{lit≤}
use lib.Ieee.{Float}
use Rattle.refusals.specs.Outcome.{Outcome, answer, onward}
use Rattle.refusals.proofs.Onward.{went, came}
use Rattle.rounding.specs.Value.{L}
use Rattle.rounding.proofs.Value.{L-pos, abs-val}
use Rattle.rounding.proofs.Signed.{dist, dist_le, dist_zero}
use Rattle.rounding.proofs.Compare.{le_val}
use Rattle.julian.specs.declared.JulianDate.{JulianDate}
use Rattle.julian.specs.JulianDate.{julian}
use Rattle.julian.specs.Worth.{Worth}
use Rattle.leap_table.specs.declared.rows.AnnouncedRows.{AnnouncedRows}
use Rattle.leap_table.specs.rows.Table.{Row, fixed}
use Rattle.leap_table.specs.rows.Announced.{table_of}
use Rattle.scales.specs.laws.Meaning.{Close}
use Rattle.scales.proofs.laws.Meant.{more-close}
use Rattle.utc_scales.specs.days.LargerPart.{first_is_kept, kept_as, kept_parts, put_beside, placed, change_smaller}
use Rattle.utc_scales.specs.UtcTai.{tai_fraction, refine_utc_fraction, utc_to_tai, tai_to_utc}
use Rattle.utc_scales.specs.round_trip.Ranges.{HalfDaySplit}
use Rattle.utc_scales.specs.round_trip.UtcDays.{ExactDay}
use Rattle.utc_scales.specs.round_trip.Relation.{RightTai, RightUtc}
use Rattle.utc_scales.specs.round_trip.RoundTrip.{ThereAndBack}
use Rattle.utc_scales.proofs.round_trip.Units.{L-H}
use Rattle.utc_scales.proofs.round_trip.Parts.{FirstPart, SecondPart, first_part, second-part}
use Rattle.utc_scales.proofs.round_trip.DaySeconds.{WholeTable, table-whole, fixed-whole}
use Rattle.utc_scales.proofs.round_trip.Kept.{first-larger}
use Rattle.utc_scales.proofs.round_trip.Meant.{whole-utc-to-tai-means}
use Rattle.utc_scales.proofs.round_trip.Rounds.{found, part}
use Rattle.utc_scales.proofs.round_trip.UtcMeant.{whole-tai-to-utc-means}
use Rattle.utc_scales.proofs.round_trip.RoundTrip.{back-within}

-- jd2 for jd1 and jd1 for jd2
abbrev pub exchanged : JulianDate → JulianDate
exchanged d = julian d.jd2 d.jd1

-- ---- the value is the same
worth-exchanged : {d : JulianDate} {P N : ℕ} → Worth d P N L → Worth (exchanged d) P N L
worth-exchanged {P = P} {N} w =
    record { p = w.q; n = w.m; q = w.p; m = w.n; first = w.second; second = w.first; total = go w.p w.n w.q w.m w.total }
  where
    go : (p n q m : ℕ) → p + q + N ≡ P + (n + m) → q + p + N ≡ P + (m + n)
    go p n q m e = omega arith

close_exchanged : {ps num den more less : ℕ} {d d' : JulianDate} → Close ps num den more less d d' → Close ps num den more less (exchanged d) (exchanged d')
close_exchanged c = record {
  p = c.p;
  n = c.n;
  p' = c.p';
  n' = c.n';
  from = worth-exchanged c.from;
  to = worth-exchanged c.to;
  over = c.over;
  under = c.under;
}

day-exchanged : {d : JulianDate} {n : ℕ} → ExactDay d n → ExactDay (exchanged d) n
day-exchanged x = record { p = x.p; m = x.m; worth = worth-exchanged x.worth; on = x.on }

-- ---- a change of the smaller part, jd2, and the same change where it is jd1
changed-exchanged : (f : Float → Float → Outcome Float) (d y : JulianDate) → first_is_kept d ≡ true → first_is_kept (exchanged d) ≡ false
    → change_smaller f d ≡ answer y → change_smaller f (exchanged d) ≡ answer (exchanged y)
unfolding change_smaller kept_parts placed put_beside
changed-exchanged f d y e g h =
    let k : onward (f d.jd1 d.jd2) (placed (kept_as d true)) ≡ answer y =
    ap (λ (b : Bool). onward (f (kept_as d (b)).larger (kept_as d (b)).smaller) (placed (kept_as d (b)))) (sym e) ∙ h in
    let (x, p, q) = came (f d.jd1 d.jd2) (placed (kept_as d true)) y k in
    let s : julian d.jd1 x ≡ y = cc in
    ap (λ (b : Bool). onward (f (kept_as (exchanged d) b).larger (kept_as (exchanged d) b).smaller) (placed (kept_as (exchanged d) b))) g
    ∙ went (placed (kept_as (exchanged d) false)) p ∙ ap (λ (z : JulianDate). answer (exchanged z)) s

-- ---- jd1 is the larger part of a date, and of the guesses of TAI to UTC
module _ {a u : Float} {A up un : ℕ} (v : FirstPart a A) (w : SecondPart u up un) where
  is-first : first_is_kept (julian a u) ≡ true
  is-first = first-larger v.val w.val (omega (arith, v.low, w.over, L-H)) (omega (arith, v.low, w.under, L-H))

  is-second : first_is_kept (julian u a) ≡ false
  unfolding first_is_kept
  is-second = le_val L-pos (abs-val v.val) (abs-val w.val)
      ∙ lt-leb (dist A 0 + 0) (dist up un + 0)
      (go (dist up un) (dist A 0) (dist_le up un (2 * L) (omega (arith, w.over)) (omega (arith, w.under))) (dist_zero A))
    where
      go : (d e : ℕ) → d ≤ 2 * L → e ≡ A → d + 0 < e + 0
      go d e l q = omega (arith, v.low, L-H, L-pos)

-- ---- THE THEOREMS, by every table that is taken, and by the fixed one
module _ {rows : List Row} (t : WholeTable rows) where
  utc-answer : {d y : JulianDate} → HalfDaySplit d → utc_to_tai rows d ≡ answer y → utc_to_tai rows (exchanged d) ≡ answer (exchanged y)
  unfolding utc_to_tai
  utc-answer {d} {y} s e = let w = (second-part s).2 in changed-exchanged (tai_fraction rows) d y (is-first (first_part s) w) (is-second (first_part s) w) e

  tai-answer : {d y : JulianDate} → HalfDaySplit d → tai_to_utc rows d ≡ answer y → tai_to_utc rows (exchanged d) ≡ answer (exchanged y)
  unfolding tai_to_utc
  tai-answer {d} {y} s e = let w = (second-part s).2 in changed-exchanged (refine_utc_fraction rows) d y (is-first (first_part s) w)
      (is-second (first_part s) w) e

  utc-exchanged : {d : JulianDate} → HalfDaySplit d → RightTai rows 77 (exchanged d)
  utc-exchanged s =
      let r = whole-utc-to-tai-means t s in
      record { n = r.n; on = day-exchanged r.on; date = exchanged r.date; is = utc-answer s r.is; means = close_exchanged r.means }

  tai-exchanged : {d : JulianDate} → HalfDaySplit d → RightUtc rows 173 (exchanged d)
  tai-exchanged s =
      let r = whole-tai-to-utc-means t s in
      record { date = exchanged r.date; is = tai-answer s r.is; n = r.n; on = day-exchanged r.on; means = close_exchanged r.means }

  back-exchanged : {d : JulianDate} → HalfDaySplit d → ThereAndBack rows 1000 (exchanged d)
  unfolding utc_to_tai
  back-exchanged {d} s =
      let v = first_part s in
      let w = found t v s.held.1 s.second in
      let z = w.at.seen in
      let u = part w.at in
      record {
        u = exchanged (julian d.jd1 w.u);
        t = exchanged (julian d.jd1 z.t);
        there = tai-answer s w.is;
        back = changed-exchanged (tai_fraction rows) (julian d.jd1 w.u) (julian d.jd1 z.t) (is-first v u) (is-second v u) z.answered;
        apart = more-close (lit≤ tt) (close_exchanged (back-within t s));
      }

module _ (t : AnnouncedRows) (rows : List Row) (e : table_of t ≡ answer rows) {d : JulianDate} (s : HalfDaySplit d) where
  pub table-utc-to-tai-exchanged : RightTai rows 77 (exchanged d)
  table-utc-to-tai-exchanged = utc-exchanged (table-whole t rows e) s

  pub table-tai-to-utc-exchanged : RightUtc rows 173 (exchanged d)
  table-tai-to-utc-exchanged = tai-exchanged (table-whole t rows e) s

  pub table-there-and-back-exchanged : ThereAndBack rows 1000 (exchanged d)
  table-there-and-back-exchanged = back-exchanged (table-whole t rows e) s

pub utc-to-tai-exchanged : {d : JulianDate} → HalfDaySplit d → RightTai fixed 77 (exchanged d)
utc-to-tai-exchanged s = utc-exchanged fixed-whole s

pub tai-to-utc-exchanged : {d : JulianDate} → HalfDaySplit d → RightUtc fixed 173 (exchanged d)
tai-to-utc-exchanged s = tai-exchanged fixed-whole s

pub there-and-back-exchanged : {d : JulianDate} → HalfDaySplit d → ThereAndBack fixed 1000 (exchanged d)
there-and-back-exchanged s = back-exchanged fixed-whole s
