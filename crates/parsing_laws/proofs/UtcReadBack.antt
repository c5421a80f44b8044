-- A UTC text that we write, of a day from 1972 to 9999, is read back as its fields and the date that they name: for every table that is taken, so on days of
-- 86,400, 86,401 and 86,399 s. Assumes nothing.
use Prim.Native.Nat.{ℕ, ◌+◌, ◌*◌, ◌≤◌}
use native.Mathlib.Omega.{arith}
use mathlib.Core.Path.{◌≡◌, refl, sym, subst}
use mathlib.Core.Bool.{Bool, true, false}
use mathlib.Core.Logic.{◌⊎◌, inl, inr}
use mathlib.Core.List.{List}
use lib.Dec.{T, eqb}
use lib.IntN.{ℤ, pos}
use lib.Ieee.{Float, of_bits, lt}
use borrow.Author.Tests.{eqb-true, eqb-false}
use Rattle.refusals.specs.Outcome.{answer, onward}
use Rattle.floats.specs.Whole.{nought, one, abs}
use Rattle.constants.specs.Constants.{decimal}
use Rattle.calendar.specs.declared.CalendarDate.{CalendarDate}
use Rattle.calendar.specs.Refusals.{valid_date}
use Rattle.julian.specs.declared.JulianDate.{JulianDate}
use Rattle.julian.specs.DayFraction.{time_in_day}
use Rattle.leap_table.specs.declared.rows.AnnouncedRows.{AnnouncedRows}
use Rattle.leap_table.specs.rows.Table.{Row, month_number}
use Rattle.leap_table.specs.rows.Announced.{table_of}
use Rattle.leap_table.specs.offsets.Leap.{leap_at_end_of_day}
use Rattle.time_of_day.specs.declared.TimeOfDay.{TimeOfDay}
use Rattle.time_of_day.specs.Milliseconds.{whole_leap}
use Rattle.time_of_day.specs.ExactTime.{GoodTime, minus_one_f}
use Rattle.leap_days.specs.Tables.{StepLeap, no_row, row_up, row_down, LeapOn, before_1960, last_of_1959, drifting, from_1972}
use Rattle.leap_days.proofs.TableLeaps.{table-leap-on}
use Rattle.utc.specs.text.Text.{utc_text}
use Rattle.utc.specs.FromCalendar.{utc_from_calendar}
use Rattle.utc.proofs.laws.FromCalendars.{time-given}
use Rattle.parsing.specs.Parsed.{fields_of, dated, parsed_utc}
use Rattle.parsing_laws.specs.Shown.{with_date}
use Rattle.parsing_laws.proofs.ReadBack.{as_written, reads_back}
use Rattle.parsing_laws.proofs.UtcTimes.{time-in-day, time-in-short-day}

-- ---- the leap of a day from 1972 on
pub data WholeStep (x : Float) : Type 0 where
  no_step : x ≡ nought → WholeStep x
  longer : x ≡ one → WholeStep x
  shorter : x ≡ minus_one_f → WholeStep x

pub whole-step : (t : AnnouncedRows) (rows : List Row) → table_of t ≡ answer rows → (y m : ℕ) (d : ℤ) (x : Float) → 1972 ≤ y → 1 ≤ m
    → leap_at_end_of_day rows (pos y) (pos m) d ≡ answer x → WholeStep x
unfolding month_number
whole-step t rows e y m d x h k p = go (table-leap-on t rows e (pos y) (pos m) d x p)
  where
    step : {n n' : ℕ} → StepLeap rows n n' x → WholeStep x
    step (no_row b q) = no_step q
    step (row_up b s q) = longer q
    step (row_down b s q) = shorter q

    go : LeapOn rows (pos y) (pos m) d x → WholeStep x
    go (before_1960 b q) = absurd (omega arith)
    go (last_of_1959 a b c q) = let w : y ≡ 1959 = cc in absurd (omega arith)
    go (drifting a b s q) = absurd (omega arith)
    go (from_1972 a s q w) = step w

-- ---- second 60 is in no day but one of 86,401 s
none-sixty : T (lt nought (whole_leap nought)) → ⊥
unfolding whole_leap lt abs
none-sixty h = h

short-sixty : T (lt nought (whole_leap minus_one_f)) → ⊥
unfolding whole_leap lt abs of_bits
short-sixty h = h

short-below : T (lt (whole_leap minus_one_f) nought)
unfolding whole_leap lt abs of_bits
short-below = tt

sixty-or-less : (s : ℕ) → s ≤ 60 → (s ≡ 60) ⊎ (s ≤ 59)
sixty-or-less s h = either (eqb s 60) refl
  where
    either : (b : Bool) → eqb s 60 ≡ b → (s ≡ 60) ⊎ (s ≤ 59)
    either true e = inl (eqb-true s 60 e)
    either false e = inr (less (eqb-false s 60 e))
      where
        less : (s ≡ 60 → ⊥) → s ≤ 59
        less n = omega arith

module _ (u : TimeOfDay) where
  abbrev second_f : Float
  second_f = decimal (1000 * u.second + u.milli) 3

  -- below 60 s where no day's second 60 is
  below-60 : (x : Float) → (T (lt nought (whole_leap x)) → ⊥) → GoodTime u (whole_leap x) → u.second ≤ 59
  below-60 x none good = of (sixty-or-less u.second good.second)
    where
      of : (u.second ≡ 60) ⊎ (u.second ≤ 59) → u.second ≤ 59
      of (inl e) = absurd (none (good.sixty e).2)
      of (inr l) = l

  last-second : GoodTime u (whole_leap one) → (u.second ≤ 59) ⊎ ((u.second ≡ 60) × (u.hour ≡ 23) × (u.minute ≡ 59) × (◌≡◌ {A = Bool} true true))
  last-second good = of (sixty-or-less u.second good.second)
    where
      of : (u.second ≡ 60) ⊎ (u.second ≤ 59) → (u.second ≤ 59) ⊎ ((u.second ≡ 60) × (u.hour ≡ 23) × (u.minute ≡ 59) × (◌≡◌ {A = Bool} true true))
      of (inl e) = let g = good.sixty e in inr (e, g.0, g.1, refl)
      of (inr l) = inl l

  pub good-in-day : (x : Float) → WholeStep x → GoodTime u (whole_leap x) → time_in_day u.hour u.minute second_f x ≡ true
  good-in-day x (no_step e) good =
      subst (λ (z : Float). time_in_day u.hour u.minute second_f z ≡ true) (sym e)
      (time-in-day u.hour u.minute u.second u.milli false good.hour good.minute good.milli
      (inl (below-60 x (subst (λ (z : Float). T (lt nought (whole_leap z)) → ⊥) (sym e) none-sixty) good)))
  good-in-day x (longer e) good =
      subst (λ (z : Float). time_in_day u.hour u.minute second_f z ≡ true) (sym e)
      (time-in-day u.hour u.minute u.second u.milli true good.hour good.minute good.milli
      (last-second (subst (λ (z : Float). GoodTime u (whole_leap z)) e good)))
  good-in-day x (shorter e) good =
      subst (λ (z : Float). time_in_day u.hour u.minute second_f z ≡ true) (sym e)
      (time-in-short-day u.hour u.minute u.second u.milli good.hour good.minute good.milli
      (below-60 x (subst (λ (z : Float). T (lt nought (whole_leap z)) → ⊥) (sym e) short-sixty) good)
      (good.shorter (subst (λ (z : Float). T (lt (whole_leap z) nought)) (sym e) short-below)))

-- the fields with their date
pub record Back (rows : List Row) (d : CalendarDate) (u : TimeOfDay) (y : ℕ) : Type 0 where
  pub date : JulianDate
  pub accepted : utc_from_calendar rows (pos y) d.month d.day u.hour u.minute (decimal (1000 * u.second + u.milli) 3) ≡ answer date
  pub read : parsed_utc rows (utc_text d u) ≡ answer (with_date (fields_of (as_written y d u)) date)

module _ (t : AnnouncedRows) (rows : List Row) (taken : table_of t ≡ answer rows) (d : CalendarDate) (u : TimeOfDay) (y : ℕ) (x : Float) (year : d.year ≡ pos y)
    (from : 1972 ≤ y) (to : y ≤ 9999) (valid : valid_date d.year (pos d.month) (pos d.day) ≡ answer tt) (some : 1 ≤ d.month) (month : d.month ≤ 12)
    (day : d.day ≤ 31)
    (leap : leap_at_end_of_day rows d.year (pos d.month) (pos d.day) ≡ answer x) (good : GoodTime u (whole_leap x)) where
  leap-here : leap_at_end_of_day rows (pos y) (pos d.month) (pos d.day) ≡ answer x
  leap-here = subst (λ (z : ℤ). leap_at_end_of_day rows z (pos d.month) (pos d.day) ≡ answer x) year leap

  in-day : time_in_day u.hour u.minute (decimal (1000 * u.second + u.milli) 3) x ≡ true
  in-day = good-in-day u x (whole-step t rows taken y d.month (pos d.day) x from some leap-here) good

  pub utc-reads-back : Back rows d u y
  unfolding parsed_utc dated onward as_written
  utc-reads-back =
      let e = time-given rows (pos y) d.month d.day u.hour u.minute (decimal (1000 * u.second + u.milli) 3)
      (subst (λ (z : ℤ). valid_date z (pos d.month) (pos d.day) ≡ answer tt) year valid) x leap-here in-day in
      record {
        date = _;
        accepted = e;
        read = rw (reads_back true d u y year to valid month day good.hour good.minute good.second good.milli, e);
      }
