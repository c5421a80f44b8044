-- UTC TO UT1 DECIDED, by every table that is taken and for all floats: 10 exactly where DUT1 is not finite; else 6 exactly where the rounded sum of the parts
-- is not in the range; else 1 exactly where the year is before -4799, for the day of the larger part first or for that of jd1 first; else a date. So it is
-- never refused with 9, nor with 10 for a finite DUT1. Assumes nothing.
use mathlib.Core.Path.{◌≡◌, refl, sym, ◌∙◌}
use mathlib.Core.Bool.{Bool, true, false, ◌||◌, true≢false}
use mathlib.Core.Logic.{inl, inr}
use mathlib.Core.List.{List}
use Prim.Native.Nat.{ℕ}
use lib.Dec.{lit≤}
use lib.Ieee.{Float, binary64, sub}
use lib.Ieee.Scale.{finite}
use Rattle.refusals.specs.Outcome.{answer, refusal}
use Rattle.rounding.proofs.Sizes.{Size}
use Rattle.julian.specs.day_number.DayNumber.{accepted, day_of}
use Rattle.julian.specs.declared.JulianDate.{JulianDate}
use Rattle.julian.specs.Finite.{finite_arg}
use Rattle.leap_table.specs.declared.rows.AnnouncedRows.{AnnouncedRows}
use Rattle.leap_table.specs.rows.Table.{Row, fixed}
use Rattle.leap_table.specs.rows.Announced.{table_of}
use Rattle.leap_table.proofs.rows.NoRows.{none-announced, fixed-taken}
use Rattle.scales.specs.Conversions.{answer_of, tai-ut1}
use Rattle.scales.specs.laws.Ranges.{Held, FiniteParts}
use Rattle.refusals.proofs.Onward.{went, stopped}
use Rattle.julian.proofs.shifts.Outcomes.{by-is}
use Rattle.scales.proofs.laws.Shifts as Shifts
use Rattle.utc_scales.specs.days.LargerPart.{kept_parts}
use Rattle.utc_scales.specs.days.Dates.{offset_of_date}
use Rattle.utc_scales.specs.UtcTai.{utc_to_tai}
use Rattle.utc_scales.specs.to_ut1.UtcUt1.{utc_to_ut1}
use Rattle.utc_scales.specs.laws.Claims.{Holds, Any, SixOrOne, DecidedDay, DecidedUt1, early_day, early_utc, Fits}
use Rattle.utc_scales.proofs.days.Midnights.{offset-early}
use Rattle.utc_scales.proofs.days.Steps.{offset-of-day}
use Rattle.utc_scales.proofs.laws.Outcomes.{holds-answer, holds-refusal, holds_at}
use Rattle.utc_scales.proofs.laws.Days.{Kind, outside, before, valid, kind, offset-answered}
use Rattle.utc_scales.proofs.laws.Refusals.{utc-to-tai-decided}
use Rattle.utc_scales.proofs.laws.NotFinite.{utc-to-ut1-no-offset}
use Rattle.utc_scales.proofs.laws.EitherOrder.{accepted-either}
use Rattle.utc_scales.proofs.laws.Decided.{by-six, by_one, by-date}
use Rattle.utc_scales.proofs.laws.DaySizes.{day-offset-size}
use Rattle.utc_scales.proofs.laws.FiniteTai.{size_small, table-utc-to-tai-never-infinite}
use Rattle.julian.specs.shifts.Shifts.{plus}

module _ (t : AnnouncedRows) (rows : List Row) (taken : table_of t ≡ answer rows) where
  module _ (d : JulianDate) (dut1 : Float) (h : Held d) (f : Fits dut1) (e : finite dut1 ≡ true) where
    -- DUT1 less TAI-UTC is finite, and TAI has finite parts: TAI to UT1 refuses nothing
    later : (u : JulianDate) → FiniteParts u → (x : Float) → Size x 11 → (v : JulianDate) × (answer_of (tai-ut1 (sub binary64 dut1 x)) u ≡ answer v)
    unfolding answer_of
    later u w x s = (_, by-is plus (sub binary64 dut1 x) u w.0 w.1 (Shifts.taken (size_small 11 (lit≤ tt) s) dut1 f e))

    started : finite_arg dut1 ≡ answer dut1
    unfolding finite_arg
    started = rw e

    refused : (n : ℕ) → utc_to_tai rows d ≡ refusal n → utc_to_ut1 rows d dut1 ≡ refusal n
    unfolding utc_to_ut1
    refused n t = went _ started ∙ stopped _ t

    no_offset : (u : JulianDate) → utc_to_tai rows d ≡ answer u → (n : ℕ) → offset_of_date rows d.jd1 d.jd2 ≡ refusal n → utc_to_ut1 rows d dut1 ≡ refusal n
    unfolding utc_to_ut1
    no_offset u t n o = went _ started ∙ went _ t ∙ stopped _ o

    given : (u : JulianDate) → utc_to_tai rows d ≡ answer u → (x : Float) → offset_of_date rows d.jd1 d.jd2 ≡ answer x
        → (v : JulianDate) × (utc_to_ut1 rows d dut1 ≡ answer v)
    unfolding utc_to_ut1
    given u q x o =
        let w = later u (holds_at u q (table-utc-to-tai-never-infinite t rows taken d h)) x
        (holds_at x o (day-offset-size t rows taken d.jd1 d.jd2 h.0 h.1)) in
        (w.0, went _ started ∙ went _ q ∙ went _ o ∙ w.1)

    -- by TAI, and by TAI-UTC of the day of jd1 and jd2
    decided : DecidedDay (accepted d.jd1 d.jd2) (early_utc d) (utc_to_ut1 rows d dut1)
    decided =
        by_tai (accepted (kept_parts d).larger (kept_parts d).smaller) (accepted-either d)
        (early_day (kept_parts d).larger (kept_parts d).smaller) (utc-to-tai-decided rows d h)
      where
        by-offset : (u : JulianDate) → utc_to_tai rows d ≡ answer u → accepted d.jd1 d.jd2 ≡ true → Kind d.jd1 d.jd2
            → DecidedDay (accepted d.jd1 d.jd2) (early_day d.jd1 d.jd2) (utc_to_ut1 rows d dut1)
        by-offset u t p (outside a k) = absurd (true≢false (sym p ∙ a))
        by-offset u t p (before a k b v) = by_one _ _ a b (no_offset u t 1 (offset-of-day rows d.jd1 d.jd2 _ k ∙ offset-early rows _ v))
        by-offset u t p (valid a k b v r) =
            let o = offset-answered rows (day_of d.jd1 d.jd2).day v in
            let w = given u t o.0 (offset-of-day rows d.jd1 d.jd2 _ k ∙ o.1) in
            by-date _ _ a b w.0 w.1

        by_tai : (a : Bool) → a ≡ accepted d.jd1 d.jd2 → (b : Bool) → DecidedDay a b (utc_to_tai rows d)
            → DecidedDay (accepted d.jd1 d.jd2) (b || early_day d.jd1 d.jd2) (utc_to_ut1 rows d dut1)
        by_tai false p b t = by-six _ _ (sym p) (refused 6 t)
        by_tai true p true t = by_one _ _ (sym p) refl (refused 1 t)
        by_tai true p false (u, t) = by-offset u t (sym p) (kind d.jd1 d.jd2 h.0 h.1)

  pub table-utc-to-ut1-decided : (d : JulianDate) (dut1 : Float) → Held d → Fits dut1
      → DecidedUt1 (finite dut1) (accepted d.jd1 d.jd2) (early_utc d) (utc_to_ut1 rows d dut1)
  table-utc-to-ut1-decided d dut1 h f = go (finite dut1) refl
    where
      go : (b : Bool) → finite dut1 ≡ b → DecidedUt1 b (accepted d.jd1 d.jd2) (early_utc d) (utc_to_ut1 rows d dut1)
      go true e = decided d dut1 h f e
      go false e = utc-to-ut1-no-offset rows d dut1 e

  -- never 9, and 10 for DUT1 alone
  pub table-utc-to-ut1-six-or-one : (d : JulianDate) (dut1 : Float) → Held d → Fits dut1 → finite dut1 ≡ true → Holds Any SixOrOne (utc_to_ut1 rows d dut1)
  table-utc-to-ut1-six-or-one d dut1 h f e = go (accepted d.jd1 d.jd2) (early_utc d) (decided d dut1 h f e)
    where
      go : (a b : Bool) → DecidedDay a b (utc_to_ut1 rows d dut1) → Holds Any SixOrOne (utc_to_ut1 rows d dut1)
      go false b t = holds-refusal 6 t (inl refl)
      go true true t = holds-refusal 1 t (inr refl)
      go true false (u, t) = holds-answer u t tt

-- ---- of the fixed table
pub utc-to-ut1-decided : (d : JulianDate) (dut1 : Float) → Held d → Fits dut1
    → DecidedUt1 (finite dut1) (accepted d.jd1 d.jd2) (early_utc d) (utc_to_ut1 fixed d dut1)
utc-to-ut1-decided = table-utc-to-ut1-decided none-announced fixed fixed-taken

pub utc-to-ut1-six-or-one : (d : JulianDate) (dut1 : Float) → Held d → Fits dut1 → finite dut1 ≡ true → Holds Any SixOrOne (utc_to_ut1 fixed d dut1)
utc-to-ut1-six-or-one = table-utc-to-ut1-six-or-one none-announced fixed fixed-taken
