-- FINITE DATES, by every table that is taken: where the parts are below 2 ^ 52 in size, and DUT1 at most 10 ^ 9 s, each of the four conversions gives a date of
-- finite parts, or is refused with 6 or 1. The sizes are kept as powers of two. Assumes nothing.
use mathlib.Core.Path.{◌≡◌, refl, sym, subst, ◌∙◌}
use mathlib.Core.Bool.{Bool, true, false}
use mathlib.Core.Logic.{inl, inr}
use mathlib.Core.List.{List}
use Prim.Native.Nat.{ℕ, zero, suc, ◌+◌}
use lib.Dec.{lit≤}
use lib.IntN.{pos, negsuc}
use lib.Ieee.{Float, binary64, of_int, add, sub, lt}
use lib.Ieee.Fits.{add-fits}
use Rattle.refusals.specs.Outcome.{Outcome, answer}
use Rattle.floats.specs.Whole.{abs, nought, half}
use Rattle.rounding.proofs.Sizes.{Size, size-add, size-sub, size-div, size-more}
use Rattle.julian.specs.day_number.DayNumber.{day_of}
use Rattle.julian.specs.declared.JulianDate.{JulianDate}
use Rattle.julian.specs.JulianDate.{julian}
use Rattle.julian.specs.Worth.{SmallParts}
use Rattle.leap_table.specs.declared.rows.AnnouncedRows.{AnnouncedRows}
use Rattle.leap_table.specs.rows.Table.{Row, fixed}
use Rattle.leap_table.specs.rows.Announced.{table_of}
use Rattle.leap_table.proofs.rows.NoRows.{none-announced, fixed-taken}
use Rattle.scales.specs.laws.Ranges.{Held, Billion, FiniteParts}
use Rattle.refusals.proofs.Onward.{went}
use Rattle.utc_scales.specs.days.LargerPart.{kept_parts}
use Rattle.utc_scales.specs.days.Dates.{offset_at0h, offsets_of}
use Rattle.utc_scales.specs.UtcTai.{tai_from_midnight, tai_fraction, utc_to_tai, moved, refined, rounds, refine_utc_fraction, tai_to_utc}
use Rattle.utc_scales.specs.to_ut1.UtcUt1.{utc_to_ut1}
use Rattle.utc_scales.specs.from_ut1.Ut1Utc.{noStep, scan_day, scan, adjust_dut1, utc_fraction, ut1_to_utc}
use Rattle.utc_scales.specs.laws.Claims.{Holds, answers, SixOrOne, Fits}
use Rattle.utc_scales.proofs.days.Midnights.{offset-early, offsets-early}
use Rattle.utc_scales.proofs.Steps.{tai-no-date, tai-no-offsets, tai-of-day}
use Rattle.utc_scales.proofs.from_ut1.Steps.{scan-no-date, scan-no-offset, scan-no-step, scan_step}
use Rattle.utc_scales.proofs.laws.Outcomes.{holds-answer, holds-refusal, holds-onward, holds_more}
use Rattle.utc_scales.proofs.laws.Days.{date_in, Kind, outside, before, valid, kind, offset-answered, offsets-answered}
use Rattle.utc_scales.proofs.laws.Refusals.{parts-fit}
use Rattle.utc_scales.proofs.laws.OffsetSizes.{offset-size, offsets-size, zero_size, day-above, zero_point_size}
use Rattle.utc_scales.proofs.laws.DaySizes.{midnight-size, since-midnight-size, day-offset-size}
use Rattle.utc_scales.proofs.laws.FiniteTai.{table-utc-to-tai-never-infinite}
use Rattle.utc_scales.proofs.laws.DateSizes.{Room, room52, room58, room64, Sized, parts-size, changed-size, Guess, finite-parts, small_size}
use Rattle.utc_scales.proofs.laws.DateSizes.{held, billion_size, later-finite, offset_answers, step-size, ScanSize, until-size, date-answers}

-- ---- THE THEOREMS, of every table that is taken
module _ (t : AnnouncedRows) (rows : List Row) (taken : table_of t ≡ answer rows) where
  tai-size : (k : ℕ) → Room k → (x y : Float) → Fits x → Fits y → Size x k → Holds (λ z. Size z (k + 3)) SixOrOne (tai_fraction rows x y)
  unfolding tai_from_midnight offsets_of
  tai-size k w x y f g s = go (kind x y f g)
    where
      go : Kind x y → Holds (λ z. Size z (k + 3)) SixOrOne (tai_fraction rows x y)
      go (outside a e) = holds-refusal 6 (tai-no-date x y 6 e rows) (inl refl)
      go (before a e b v) = holds-refusal 1 (tai-no-offsets rows x y (day_of x y) e 1 (offsets-early rows (day_of x y).day v)) (inr refl)
      go (valid a e b v r) =
          let q = date_in x y in
          let o = offsets-answered rows (day_of x y).day v in
          let z = offsets-size t rows taken q.year (pos q.month) (pos q.day) o.0 o.1 in
          holds-answer _ (tai-of-day rows x y (day_of x y) e r o.0 o.1)
          (size-add (k + 2) 37 (k + 3) w.c w.top3
          (size-add (k + 1) 31 (k + 2) w.b w.top2 (size-sub 22 k (k + 1) w.a w.top1 zero_point_size s) (midnight-size (day_of x y).day r))
          (since-midnight-size x y f g a o.0 z))

  utc-size : (k : ℕ) → Room k → (d : JulianDate) → Held d → Sized k d → Holds (Sized (k + 3)) SixOrOne (utc_to_tai rows d)
  unfolding utc_to_tai
  utc-size k w d h s =
      let p = parts-fit d h in
      let q = parts-size k d s in
      changed-size (k + 3) (tai_fraction rows) d (size-more k (k + 3) w.wide q.0)
      (tai-size k w (kept_parts d).larger (kept_parts d).smaller p.0 p.1 q.0)

  module _ (big small : Float) (fb : Fits big) where
    round_size : (k : ℕ) → Room k → Size big k → Size small k → (guess : Float) → Guess k guess → Holds (Guess (k + 6)) SixOrOne (refined rows big small guess)
    unfolding refined moved
    round_size k w sb ss guess g =
        holds-onward _ (utc-size k w (julian big guess) (fb, g.fits) (record { first = sb; second = g.size })) (λ u s.
        answers (record {
          fits = add-fits binary64 _ _;
          size =
              size-add (k + 5) (k + 4) (k + 6) w.f w.top6
              (size-add k (k + 4) (k + 5) w.e w.top5 g.size (size-sub k (k + 3) (k + 4) w.d w.top4 sb s.first))
              (size-sub k (k + 3) (k + 4) w.d w.top4 ss s.second);
        }))

    rounds-size : Guess 52 small → Size big 52 → Holds (λ z. Size z 70) SixOrOne (refine_utc_fraction rows big small)
    unfolding refine_utc_fraction rounds
    rounds-size g sb =
        holds-onward _ (round_size 52 room52 sb g.size small g) (λ x u.
        holds-onward _ (round_size 58 room58 (size-more 52 58 (lit≤ tt) sb) (size-more 52 58 (lit≤ tt) g.size) x u) (λ y v.
        holds-onward _ (round_size 64 room64 (size-more 52 64 (lit≤ tt) sb) (size-more 52 64 (lit≤ tt) g.size) y v) (λ z h. answers h.size)))

  pub table-utc-to-tai-finite : (d : JulianDate) → SmallParts d → Holds FiniteParts SixOrOne (utc_to_tai rows d)
  table-utc-to-tai-finite d h = table-utc-to-tai-never-infinite t rows taken d (held d h)

  pub table-tai-to-utc-finite : (d : JulianDate) → SmallParts d → Holds FiniteParts SixOrOne (tai_to_utc rows d)
  unfolding tai_to_utc
  table-tai-to-utc-finite d h =
      let p = parts-fit d (held d h) in
      let q = parts-size 52 d (small_size d h) in
      holds_more (finite-parts 70) (λ n r. r)
      (changed-size 70 (refine_utc_fraction rows) d (size-more 52 70 (lit≤ tt) q.0)
      (rounds-size (kept_parts d).larger (kept_parts d).smaller p.0 (record { fits = p.1; size = q.1 }) q.0))

  pub table-utc-to-ut1-finite : (d : JulianDate) (dut1 : Float) → SmallParts d → Billion dut1 → Holds FiniteParts SixOrOne (utc_to_ut1 rows d dut1)
  unfolding utc_to_ut1
  table-utc-to-ut1-finite d dut1 h b =
      let s = billion_size dut1 b in
      subst (λ (o : Outcome JulianDate). Holds FiniteParts SixOrOne o) (sym (went _ (offset_answers dut1 30 s)))
      (holds-onward _ (utc-size 52 room52 d (held d h) (small_size d h)) (λ u z.
      holds-onward _ (day-offset-size t rows taken d.jd1 d.jd2 h.first.held h.second.held)
      (λ x w. later-finite u _ z (size-sub 30 11 31 (lit≤ tt) (lit≤ tt) s w))))

  module _ (big small dut1 : Float) (fb : Fits big) (sb : Size big 52) (ss : Size small 52) (sd : Size dut1 30) where
    scan-day-size : (i earlier : Float) → Size earlier 11 → Holds ScanSize SixOrOne (scan_day rows big small dut1 i earlier)
    unfolding offset_at0h
    scan-day-size i earlier z = go (kind big (add binary64 small i) fb (add-fits binary64 small i))
      where
        go : Kind big (add binary64 small i) → Holds ScanSize SixOrOne (scan_day rows big small dut1 i earlier)
        go (outside a e) = holds-refusal 6 (scan-no-date rows big small dut1 i earlier 6 e) (inl refl)
        go (before a e b v) = holds-refusal 1 (scan-no-offset rows big small dut1 i earlier _ e 1 (offset-early rows _ v)) (inr refl)
        go (valid a e b v r) = let o = offset-answered rows _ v in compare o.0 o.1 (lt (abs (sub binary64 o.0 earlier)) half) refl
          where
            compare : (x : Float) → offset_at0h rows (date_in big (add binary64 small i)) ≡ answer x → (s : Bool) → lt (abs (sub binary64 x earlier)) half ≡ s
                → Holds ScanSize SixOrOne (scan_day rows big small dut1 i earlier)
            compare x p true h = let s = date_in big (add binary64 small i) in holds-answer (noStep x) (scan-no-step rows big small dut1 i earlier _ e x p h)
                (offset-size t rows taken s.year (pos s.month) (pos s.day) nought x (zero_size 0) p)
            compare x p false h =
                let s = date_in big (add binary64 small i) in
                holds-answer _ (scan_step rows big small dut1 i earlier _ e x p r h)
                (step-size big small dut1 sb ss sd _ _
                (size-sub 11 11 12 (lit≤ tt) (lit≤ tt) (offset-size t rows taken s.year (pos s.month) (pos s.day) nought x (zero_size 0) p) z) r)

    scan-size : (k i : ℕ) (earlier : Float) → Size earlier 11 → Holds (λ z. Size z 84) SixOrOne (scan rows big small dut1 k i earlier)
    unfolding scan
    scan-size zero i earlier z = answers (size-more 30 84 (lit≤ tt) sd)
    scan-size (suc k) i earlier z = holds-onward _ (scan-day-size (of_int binary64 (pos i)) earlier z)
        (λ s h. until-size _ (λ x w. scan-size k (i + 1) x w) s h)

    utc-part-size : Holds (λ z. Size z 85) SixOrOne (utc_fraction rows dut1 big small)
    unfolding utc_fraction adjust_dut1
    utc-part-size =
        holds-onward _ (holds-onward _ (day-offset-size t rows taken big (add binary64 small (of_int binary64 (negsuc 0))) fb (add-fits binary64 small _))
        (λ x w. scan-size 4 0 x w))
        (λ x w. answers (size-sub 52 84 85 (lit≤ tt) (lit≤ tt) ss (size-div 84 (lit≤ tt) w day-above)))

  pub table-ut1-to-utc-finite : (d : JulianDate) (dut1 : Float) → SmallParts d → Billion dut1 → Holds FiniteParts SixOrOne (ut1_to_utc rows d dut1)
  unfolding ut1_to_utc
  table-ut1-to-utc-finite d dut1 h b =
      let s = small_size d h in
      let p = parts-fit d (held d h) in
      let q = parts-size 52 d s in
      let w = billion_size dut1 b in
      subst (λ (o : Outcome JulianDate). Holds FiniteParts SixOrOne o) (sym (went _ (offset_answers dut1 30 w) ∙ went _ (date-answers d s)))
      (holds_more (finite-parts 85) (λ n r. r)
      (changed-size 85 (utc_fraction rows dut1) d (size-more 52 85 (lit≤ tt) q.0)
      (utc-part-size (kept_parts d).larger (kept_parts d).smaller dut1 p.0 q.0 q.1 w)))

-- ---- of the fixed one
pub utc-to-tai-finite : (d : JulianDate) → SmallParts d → Holds FiniteParts SixOrOne (utc_to_tai fixed d)
utc-to-tai-finite = table-utc-to-tai-finite none-announced fixed fixed-taken

pub tai-to-utc-finite : (d : JulianDate) → SmallParts d → Holds FiniteParts SixOrOne (tai_to_utc fixed d)
tai-to-utc-finite = table-tai-to-utc-finite none-announced fixed fixed-taken

pub utc-to-ut1-finite : (d : JulianDate) (dut1 : Float) → SmallParts d → Billion dut1 → Holds FiniteParts SixOrOne (utc_to_ut1 fixed d dut1)
utc-to-ut1-finite = table-utc-to-ut1-finite none-announced fixed fixed-taken

pub ut1-to-utc-finite : (d : JulianDate) (dut1 : Float) → SmallParts d → Billion dut1 → Holds FiniteParts SixOrOne (ut1_to_utc fixed d dut1)
ut1-to-utc-finite = table-ut1-to-utc-finite none-announced fixed fixed-taken
