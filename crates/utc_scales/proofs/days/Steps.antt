-- The larger part of a date, and TAI-UTC of the day of a pair of parts. Assumes nothing.
use mathlib.Core.Path.{◌≡◌, ap, ◌∙◌}
use mathlib.Core.List.{List}
use Prim.Native.Nat.{ℕ}
use lib.Ieee.{Float}
use Rattle.refusals.specs.Outcome.{Outcome, answer, refusal, onward}
use Rattle.refusals.proofs.Onward.{went, stopped}
use Rattle.calendar.specs.Gregorian.{gregorian_date}
use Rattle.julian.specs.declared.day_number.DayNumber.{DayNumber}
use Rattle.julian.specs.day_number.Answer.{day_number_and_fraction}
use Rattle.julian.specs.declared.JulianDate.{JulianDate}
use Rattle.julian.specs.Calendar.{julian_to_calendar}
use Rattle.julian.proofs.laws.CalendarDays.{fields-of}
use Rattle.leap_table.specs.rows.Table.{Row}
use Rattle.utc_scales.specs.declared.days.Parts.{Parts}
use Rattle.utc_scales.specs.days.LargerPart.{kept_parts, placed, change_smaller}
use Rattle.utc_scales.specs.days.Dates.{offset_of_date, offset_at0h}

-- ---- the larger part
pub changes : (f : Float → Float → Outcome Float) (d : JulianDate) (p : Parts) (o : Outcome Float) → p ≡ kept_parts d → o ≡ f p.larger p.smaller
    → onward o (placed p) ≡ change_smaller f d
unfolding change_smaller
changes f d p o e h = ap (λ (x : Outcome Float). onward x (placed p)) h ∙ ap (λ (q : Parts). onward (f q.larger q.smaller) (placed q)) e

-- ---- a pair of parts with no day number
module _ (x y : Float) (n : ℕ) (e : day_number_and_fraction x y ≡ refusal n) where
  pub no_date : julian_to_calendar x y ≡ refusal n
  unfolding julian_to_calendar
  no_date = stopped _ e

  pub offset-no-date : (rows : List Row) → offset_of_date rows x y ≡ refusal n
  unfolding offset_of_date
  offset-no-date rows = stopped _ no_date

-- ---- a pair with one
pub offset-of-day : (rows : List Row) (x y : Float) (d : DayNumber) → day_number_and_fraction x y ≡ answer d
    → offset_of_date rows x y ≡ offset_at0h rows (gregorian_date d.day)
unfolding offset_of_date
offset-of-day rows x y d e = went _ (fields-of x y d e)
