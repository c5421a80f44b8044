-- UTC TO UT1 READS ONE DAY where jd1 is the larger part, and where both parts lie on the grid: the year of that day alone decides. Assumes nothing.
use mathlib.Core.Path.{◌≡◌, refl, sym, ap, ◌∙◌, subst}
use mathlib.Core.Bool.{Bool, true, false, ◌||◌}
use mathlib.Core.Logic.{inl, inr}
use mathlib.Core.List.{List}
use lib.IntN.{+ℤ_comm}
use lib.Ieee.{Float, binary64}
use lib.Ieee.Scale.{finite}
use Rattle.refusals.specs.Outcome.{Outcome, answer}
use Rattle.calendar.proofs.Mjd.{same_answer}
use Rattle.julian.specs.day_number.DayNumber.{in_julian_range, accepted, day_of}
use Rattle.julian.specs.day_number.ExactDay.{OnGrid}
use Rattle.julian.proofs.day_number.Answer.{answered}
use Rattle.julian.proofs.day_number.ExactDay.{alike}
use Rattle.julian.specs.declared.JulianDate.{JulianDate}
use Rattle.leap_table.specs.declared.rows.AnnouncedRows.{AnnouncedRows}
use Rattle.leap_table.specs.rows.Table.{Row, fixed}
use Rattle.leap_table.specs.rows.Announced.{table_of}
use Rattle.leap_table.proofs.rows.NoRows.{none-announced, fixed-taken}
use Rattle.scales.specs.laws.Ranges.{Held}
use Rattle.utc_scales.specs.days.LargerPart.{first_is_kept, kept_as, kept_parts}
use Rattle.utc_scales.specs.to_ut1.UtcUt1.{utc_to_ut1}
use Rattle.utc_scales.specs.laws.Claims.{DecidedUt1, early_day, early_utc, OneDay, Fits}
use Rattle.utc_scales.proofs.laws.EitherOrder.{add_turned}
use Rattle.utc_scales.proofs.laws.Ut1Decided.{table-utc-to-ut1-decided}

twice : (b : Bool) → (b || b) ≡ b
twice true = refl
twice false = refl

-- two parts on the grid have one day in both orders
day-turned : (x y : Float) → Fits x → Fits y → OnGrid x → OnGrid y → accepted x y ≡ true → day_of y x ≡ day_of x y
unfolding accepted
day-turned x y f g a b e =
    same_answer
    (sym (answered y x (ap in_julian_range (add_turned binary64 y x) ∙ e)) ∙ alike y x x y g f f g b a a b (+ℤ_comm b.units a.units) ∙ answered x y e)

module _ (d : JulianDate) (h : Held d) where
  -- the day of the larger part and the smaller one is that of jd1 and jd2
  one-day : OneDay d → accepted d.jd1 d.jd2 ≡ true → early_utc d ≡ early_day d.jd1 d.jd2
  unfolding kept_parts
  one-day (inl l) e =
      ap (λ (b : Bool). early_day (kept_as d b).larger (kept_as d b).smaller || early_day d.jd1 d.jd2) l ∙ twice (early_day d.jd1 d.jd2)
  one-day (inr (a, b)) e = go (first_is_kept d) ∙ twice (early_day d.jd1 d.jd2)
    where
      go : (b : Bool) → (early_day (kept_as d b).larger (kept_as d b).smaller || early_day d.jd1 d.jd2)
          ≡ (early_day d.jd1 d.jd2 || early_day d.jd1 d.jd2)
      go true = refl
      go false = rw (day-turned d.jd1 d.jd2 h.0 h.1 a b e)

-- the year matters only where the sum is in the range
by-year : (o : Outcome JulianDate) (f r e g : Bool) → (r ≡ true → e ≡ g) → DecidedUt1 f r e o → DecidedUt1 f r g o
by-year o false r e g h k = k
by-year o true false e g h k = k
by-year o true true e g h k = subst (λ (b : Bool). DecidedUt1 true true b o) (h refl) k

pub table-utc-to-ut1-decided-by-day : (t : AnnouncedRows) (rows : List Row) → table_of t ≡ answer rows → (d : JulianDate) (dut1 : Float) → Held d → Fits dut1
    → OneDay d
    → DecidedUt1 (finite dut1) (accepted d.jd1 d.jd2) (early_day d.jd1 d.jd2) (utc_to_ut1 rows d dut1)
table-utc-to-ut1-decided-by-day t rows taken d dut1 h f o =
    by-year _ (finite dut1) (accepted d.jd1 d.jd2) (early_utc d) (early_day d.jd1 d.jd2) (one-day d h o)
    (table-utc-to-ut1-decided t rows taken d dut1 h f)

-- by the fixed table
pub utc-to-ut1-decided-by-day : (d : JulianDate) (dut1 : Float) → Held d → Fits dut1 → OneDay d
    → DecidedUt1 (finite dut1) (accepted d.jd1 d.jd2) (early_day d.jd1 d.jd2) (utc_to_ut1 fixed d dut1)
utc-to-ut1-decided-by-day = table-utc-to-ut1-decided-by-day none-announced fixed fixed-taken
