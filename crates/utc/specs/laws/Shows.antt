-- What demand 3 asks of UTC text. Written from document 01, "UTC text": "The time shown is the text's 3,600 × hour + 60 × minute + second, in seconds of the
-- exact day; where the text is the next day's midnight, it is the day length." Assumes nothing.
use Rattle.std.specs.Prelude.{◌≡◌, Bool, false, cond, List, ℕ, ◌*◌, ◌^◌, ◌≤◌, ◌<◌, ℤ, pos, negsuc, length, Float}
use Rattle.std.proofs.Math.IntN.{suc_ℤ}
use Rattle.std.specs.Int.Signed.{lt_z}
use Rattle.refusals.specs.Outcome.{Outcome, answer, refusal}
use Rattle.calendar.specs.Calendar.{date_of}
use Rattle.julian.specs.day_number.ExactDay.{exact_day, exact_fraction}
use Rattle.leap_table.specs.rows.Table.{Row}
use Rattle.leap_table.specs.offsets.Leap.{leap_at_end_of_day}
use Rattle.time_of_day.specs.declared.TimeOfDay.{TimeOfDay}
use Rattle.time_of_day.specs.Milliseconds.{whole_leap}
use Rattle.time_of_day.specs.ExactTime.{DayLength, TimeWithin, GoodTime}
use Rattle.utc.specs.text.ReadBack.{ReadsAs, read_ms}
use Rattle.utc.specs.text.WellFormed.{WellFormed, YearFilledToFour}
use Rattle.utc.specs.iso_texts.IsoText.{midnight}

-- the digits of t say the date of day n and a time of a day with this leap, or the next day's midnight
pub data DayShown (t : List ℕ) (n : ℤ) (leap : Float) : Type 0 where
  on-day : (u : TimeOfDay) → ReadsAs t (date_of n) u → GoodTime u (whole_leap leap) → DayShown t n leap
  next_midnight : ReadsAs t (date_of (suc_ℤ n)) midnight → DayShown t n leap

-- document 01's time shown, in milliseconds of a day of W / E seconds, times E
unfoldable pub time_shown : {t : List ℕ} {n : ℤ} {leap : Float} → DayShown t n leap → ℕ → ℕ → ℕ
time_shown {t} (on-day u r g) W E = read_ms t * E
time_shown (next_midnight r) W E = 1000 * W

-- What is promised of the texts of a form of text: a form, and that on a day with a leap the time shown is within e / c milliseconds of the exact one
pub record Promise : Type 1 where
  pub Form : List ℕ → Type 0
  pub c : Float → ℕ
  pub e : Float → ℕ

-- t has the promised form; it shows day n, and a time as near to F / 2 ^ 52 of the day as is promised, however the day's length is written as a fraction W / E
-- of seconds
pub record TextRight (p : Promise) (t : List ℕ) (n : ℤ) (F : ℕ) (leap : Float) : Type 0 where
  pub form : p.Form t
  pub day : DayShown t n leap
  pub near : (W E : ℕ) → 0 < E → DayLength leap W E → TimeWithin (p.c leap) (p.e leap) (time_shown day W E) F (2 ^ 52) W E

-- document 01's form: no zero in front of a year of more than four characters, and 23 to 26 bytes
pub record Form01 (t : List ℕ) : Type 0 where
  pub form : WellFormed t
  pub year_filled : YearFilledToFour t
  pub shortest : 23 ≤ length t
  pub longest : length t ≤ 26

-- document 01's promise: 0.501 ms on every day
abbrev pub promise01 : Promise
promise01 = record { Form = Form01; c = λ leap. 1000; e = λ leap. 501 }

-- the year of the sum's exact day is before -4799
abbrev pub too_early : ℤ → Bool
too_early sum = lt_z (date_of (exact_day sum)).year (negsuc 4798)

-- Demand 3 of the outcome o of asking for the text of a date with this exact sum, in a table of rows: 1 exactly where the year is before -4799, and else a text
-- that shows the exact day and the exact time, or the next day's midnight, as is promised
pub record TextDemand (p : Promise) (rows : List Row) (sum : ℤ) (o : Outcome (List ℕ)) : Type 0 where
  pub text : List ℕ
  pub is : o ≡ cond (too_early sum) (refusal 1) (answer text)
  pub leap : Float
  pub leap_is : too_early sum ≡ false
      → leap_at_end_of_day rows (date_of (exact_day sum)).year (pos (date_of (exact_day sum)).month) (pos (date_of (exact_day sum)).day) ≡ answer leap
  pub right : too_early sum ≡ false → TextRight p text (exact_day sum) (exact_fraction sum) leap
