-- Demand 3 of UTC text, whole: what every call for the text of a date on the grid answers and leaves in its buffer, however the date is divided and whatever
-- the buffer holds. Written from demand 3 and document 01, "UTC text" and "Refusals by number". Assumes nothing.
use Rattle.std.specs.Prelude.{◌≡◌, true, false, List, ◌++◌, ℕ, ◌≤◌, ◌<◌, T, ℤ, pos, length, drop, Float, Result}
use Rattle.std.specs.Float.{binary64}
use Rattle.std.specs.Float.Ieee.{fits}
use Rattle.refusals.specs.declared.Refusal.{Refusal}
use Rattle.refusals.specs.Outcome.{answer, refusal, outcome}
use Rattle.calendar.specs.Calendar.{date_of}
use Rattle.julian.specs.day_number.ExactDay.{OnGrid, grid_sum, exact_day, exact_fraction}
use Rattle.julian.specs.declared.JulianDate.{JulianDate}
use Rattle.leap_table.specs.rows.Table.{Row}
use Rattle.leap_table.specs.offsets.Leap.{leap_at_end_of_day}
use Rattle.time_of_day.specs.ExactTime.{DayLength}
use Rattle.utc.specs.iso_texts.TextForm.{TextForm}
use Rattle.utc.specs.iso_texts.IsoText.{iso_text_by}
use Rattle.utc.specs.iso_texts.TextCall.{TextCall, Alike}
use Rattle.utc.specs.laws.Shows.{Promise, TextRight, too_early}

-- a Julian date whose two parts are floats on the grid with this exact sum
pub record Division (sum : ℤ) (jd : JulianDate) : Type 0 where
  pub first_float : T (fits binary64 jd.jd1)
  pub second_float : T (fits binary64 jd.jd2)
  pub first : OnGrid jd.jd1
  pub second : OnGrid jd.jd2
  pub sum_is : grid_sum first second ≡ sum

-- P holds of each call for the text of a division of the sum, by a form of text: of what the buffer held before, the answer, and what it
-- holds after
abbrev pub EveryCall : TextForm → List Row → ℤ → (List ℕ → Result ℕ Refusal → List ℕ → Type 0) → Type 0
EveryCall textForm rows sum P =
    (jd : JulianDate) → Division sum jd → (before : List ℕ) (r : Result ℕ Refusal) (after : List ℕ) → TextCall (iso_text_by textForm rows jd) before r after
    → P before r after

-- the text t shows the exact day and the exact time of the sum, or the next day's midnight; the day's length is 86,400 s and the leap that the table gives,
-- where it counts
pub record ShowsExact (p : Promise) (rows : List Row) (sum : ℤ) (t : List ℕ) : Type 0 where
  pub leap : Float
  pub leap_is : leap_at_end_of_day rows (date_of (exact_day sum)).year (pos (date_of (exact_day sum)).month) (pos (date_of (exact_day sum)).day) ≡ answer leap
  pub has_length : (W : ℕ) × (E : ℕ) × (0 < E) × DayLength leap W E
  pub right : TextRight p t (exact_day sum) (exact_fraction sum) leap

-- 1, and no byte written
pub record TooEarly (before : List ℕ) (r : Result ℕ Refusal) (after : List ℕ) : Type 0 where
  pub says : outcome r ≡ refusal 1
  pub holds : after ≡ before

-- the text t, at the buffer's start and with the rest as it was, where it fits; else 11, and no byte written
pub data Put (t before : List ℕ) (r : Result ℕ Refusal) (after : List ℕ) : Type 0 where
  fits_in : length t ≤ length before → outcome r ≡ answer (length t) → after ≡ t ++ drop (length t) before → Put t before r after
  too_long : length before < length t → outcome r ≡ refusal 11 → after ≡ before → Put t before r after

-- One text, or one refusal, for all divisions of one date: 1 where the exact day's year is before -4799; else a text that is right, in every buffer that holds
-- it; and any two calls, with buffers of one length, alike
pub record OneText (textForm : TextForm) (p : Promise) (rows : List Row) (sum : ℤ) : Type 0 where
  pub early : too_early sum ≡ true → EveryCall textForm rows sum TooEarly
  pub shown : too_early sum ≡ false → (t : List ℕ) × ShowsExact p rows sum t × EveryCall textForm rows sum (Put t)
  pub alike : EveryCall textForm rows sum (λ l r out. EveryCall textForm rows sum (λ l' r' out'. length l ≡ length l' → Alike l r out l' r' out'))
