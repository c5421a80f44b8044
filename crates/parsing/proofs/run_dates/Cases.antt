-- Worked cases of the dates of a run, by computation: which bytes are the second text, by its own length, a length above 27, and second 60 on a day that is
-- kept. Assumes nothing.
use Prim.Native.Nat.{ℕ, zero, suc}
use mathlib.Core.Path.{◌≡◌, refl}
use mathlib.Core.List.{List, [], ◌∷◌, ◌++◌}
use lib.Ieee.{Float, round, of_int, add, mul, div, lt, le, eq}
use Rattle.refusals.specs.Outcome.{refusal, onward}
use Rattle.constants.specs.Constants.{seconds_per_day}
use Rattle.floats.specs.Whole.{nought}
use Rattle.julian.specs.DayFraction.{day_fraction, time_in_day, second_limit}
use Rattle.leap_table.specs.rows.Table.{Row}
use Rattle.utc.specs.FromCalendar.{midnight_plus}
use Rattle.parsing.specs.declared.run_dates.kept_day.KeptDay.{KeptDay}
use Rattle.parsing.specs.scan.Scan.{form_with}
use Rattle.parsing.specs.Judging.{quotient}
use Rattle.parsing.specs.run_dates.Kept.{time_judged}
use Rattle.parsing.specs.run_dates.RunDates.{date_read, text_date, dates_refusal}

-- so many bytes 9
abbrev nines : ℕ → List ℕ
nines zero = []
nines (suc k) = 9 ∷ nines k

-- the second text has three bytes, from byte 27 on, and the first has two
pub second-text : (rows : List Row) → text_date rows (nines 27 ++ (1 ∷ 2 ∷ 3 ∷ nines 24)) (2 ∷ 3 ∷ []) 1 ≡ date_read rows (1 ∷ 2 ∷ 3 ∷ [])
unfolding text_date
second-text rows = refl

-- 27 bytes are the whole place, and 28 are more
pub whole-place : (rows : List Row) → text_date rows (nines 54) (27 ∷ 28 ∷ []) 0 ≡ date_read rows (nines 27)
unfolding text_date
whole-place rows = refl

pub over-its-place : (rows : List Row) → text_date rows (nines 54) (27 ∷ 28 ∷ []) 1 ≡ refusal 15
unfolding text_date
over-its-place rows = refl

-- a witness at each end: one text, and nine million; then the order, by lengths that break each rule and all behind it
pub refusals_in_order :
    (dates_refusal 27 1 8 8 1 ≡ 0) × (dates_refusal 27 1 7 8 1 ≡ 11) × (dates_refusal 27 1 8 7 1 ≡ 11) × (dates_refusal 27 1 8 8 0 ≡ 11)
    × (dates_refusal 243000000 9000000 72000000 72000000 9000000 ≡ 0) × (dates_refusal 243000000 9000000 71999999 72000000 9000000 ≡ 11)
    × (dates_refusal 0 0 0 0 0 ≡ 0) × (dates_refusal 26 0 0 0 0 ≡ 14) × (dates_refusal 27 0 0 0 0 ≡ 12) × (dates_refusal 27 2 0 0 0 ≡ 12)
unfolding dates_refusal
refusals_in_order = (refl, refl, refl, refl, refl, refl, refl, refl, refl, refl)

-- a day of this leap
abbrev day_of : Float → KeptDay
day_of x = record { jd1 = nought; jd2 = nought; leap = x; date = nines 11 }

-- 23:59:60.5 is not in a day of 86,400 s, whatever day was before it
pub second-sixty : time_judged (day_of nought) (form_with 0 0 0 23 59 60 605 1) ≡ refusal 4
unfolding time_judged quotient midnight_plus onward day_fraction time_in_day second_limit seconds_per_day of_int add mul div lt le eq round
second-sixty = refl
