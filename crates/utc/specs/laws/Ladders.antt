-- The orders of refusals of the calls that read TAI-UTC by an announced table. Written from document 01, "Refusals by number" (the look-up 7, date; the leap
-- date, 5; `UTC::new` 8, 6, date, 4; `utc_from_calendar` date, 5, 4; the text 6, date, 11), and document 02, item 8: 20 for the sizes, then 21, then 22, before
-- all of these. Assumes nothing.
use Rattle.std.specs.Prelude.{◌≡◌, Bool, true, false, ◌||◌, ◌⊎◌, List, ℕ, ◌≤◌, ◌<◌, ℤ, pos, negsuc, nat_abs, ◌+ℤ◌, length, Float}
use Rattle.std.specs.Int.Signed.{lt_z}
use Rattle.std.specs.Float.{binary64}
use Rattle.std.specs.Float.Ieee.{add, lt}
use Rattle.refusals.specs.Outcome.{answer}
use Rattle.floats.specs.Whole.{nought}
use Rattle.constants.specs.Constants.{decimal}
use Rattle.calendar.specs.Calendar.{days_in_month, date_of}
use Rattle.calendar.specs.Refusals.{last_date}
use Rattle.calendar.specs.Gregorian.{gregorian_date}
use Rattle.calendar.specs.declared.CalendarDate.{CalendarDate}
use Rattle.julian.specs.day_number.DayNumber.{accepted, day_of}
use Rattle.julian.specs.declared.JulianDate.{JulianDate}
use Rattle.julian.specs.DayFraction.{time_in_day}
use Rattle.leap_table.specs.declared.rows.AnnouncedRows.{AnnouncedRows}
use Rattle.leap_table.specs.rows.Table.{Row}
use Rattle.leap_table.specs.rows.Announced.{rows_of, later_at, StepAt}
use Rattle.leap_table.specs.offsets.Offset.{in_day}
use Rattle.leap_table.specs.offsets.Leap.{leap_at_end_of_day}
use Rattle.utc.specs.iso_texts.TextForm.{TextForm}
use Rattle.utc.specs.iso_texts.IsoText.{iso_text_by}
use Rattle.utc.specs.UnixTime.{unix_day, second_of_unix_day, second_with_nanos}
use Rattle.utc.specs.laws.Ladder.{Ladder, done, refuse}

-- ---- the table's reasons, on the numbers as they are lent
abbrev pub WrongSizes : AnnouncedRows → Type 0
WrongSizes t = (t.months_size ≡ t.seconds_size → ⊥) ⊎ (16 < t.months_size)

abbrev pub RowNotLater : AnnouncedRows → Type 0
RowNotLater t = (i : ℕ) × (i < t.months_size) × (later_at t i ≡ false)

abbrev pub NotOneStep : AnnouncedRows → Type 0
NotOneStep t = (i : ℕ) × (i < t.months_size) × (StepAt t i → ⊥)

abbrev pub table_first : AnnouncedRows → Ladder → Ladder
table_first t later = refuse 20 (WrongSizes t) (refuse 21 (RowNotLater t) (refuse 22 (NotOneStep t) later))

-- ---- a date's
abbrev pub date_then : ℤ → ℤ → ℤ → Ladder → Ladder
date_then y m d later =
    refuse 1 (lt_z y (negsuc 4798) ≡ true)
    (refuse 2 (lt_z m (pos 1) || lt_z (pos 12) m ≡ true)
    (refuse 3 (lt_z d (pos 1) || lt_z (pos (days_in_month y m)) d ≡ true) later))

-- those of the calendar's date of two parts: their rounded sum is outside the range, or the year is before -4799; its month and day are always good
abbrev pub date_in : Float → Float → CalendarDate
date_in x y = gregorian_date (day_of x y).day

abbrev pub parts_then : Float → Float → Ladder → Ladder
parts_then x y later = refuse 6 (accepted x y ≡ false) (refuse 1 (lt_z (date_in x y).year (negsuc 4798) ≡ true) later)

-- ---- a time's: by the leap at the end of the day it is not in it
abbrev pub TimeOutside : List Row → ℤ → ℤ → ℤ → ℕ → ℕ → Float → Type 0
TimeOutside rows y m d hour minute second = (leap : Float) × (leap_at_end_of_day rows y m d ≡ answer leap) × (time_in_day hour minute second leap ≡ false)

-- of a Unix time, whose second is below 60 by itself: the day ends in a step back, it is the last minute, and the second is not below 60 plus the leap
pub record PastShortEnd (rows : List Row) (date : CalendarDate) (second nanos : ℕ) : Type 0 where
  pub leap : Float
  pub leap_is : leap_at_end_of_day rows date.year (pos date.month) (pos date.day) ≡ answer leap
  pub step_back : lt leap nought ≡ true
  pub last-minute : 86340 ≤ second
  pub past : lt (second_with_nanos second nanos) (add binary64 (decimal 60 0) leap) ≡ false

-- ---- the calls
abbrev pub offset_ladder : AnnouncedRows → ℤ → ℤ → ℤ → Float → Ladder
offset_ladder t y m d fraction = table_first t (refuse 7 (in_day fraction ≡ false) (date_then y m d done))

abbrev pub leap_ladder : AnnouncedRows → ℤ → ℤ → ℤ → Ladder
leap_ladder t y m d = table_first t (date_then y m d (refuse 5 (last_date y (nat_abs m) (nat_abs d) ≡ true) done))

abbrev pub from_calendar_ladder : AnnouncedRows → ℤ → ℕ → ℕ → ℕ → ℕ → Float → Ladder
from_calendar_ladder t y m d hour minute second =
    table_first t
    (date_then y (pos m) (pos d)
    (refuse 5 (last_date y m d ≡ true)
    (refuse 4 (TimeOutside (rows_of t) y (pos m) (pos d) hour minute second) done)))

-- a Unix day that has no calendar date: before -4900-03-01 or after the day on which the sum of the parts passes 10^9
abbrev pub day_outside : ℤ → Bool
day_outside n = lt_z n (negsuc 2509156) || lt_z (pos 997559412) n

-- its date
abbrev pub unix_date : ℤ → CalendarDate
unix_date n = date_of (n +ℤ pos 2440588)

abbrev pub new_ladder : AnnouncedRows → ℤ → ℕ → Ladder
new_ladder t seconds nanos =
    table_first t
    (refuse 8 (1000000000 ≤ nanos)
    (refuse 6 (day_outside (unix_day seconds) ≡ true)
    (refuse 1 (lt_z (unix_date (unix_day seconds)).year (negsuc 4798) ≡ true)
    (refuse 4 (PastShortEnd (rows_of t) (unix_date (unix_day seconds)) (second_of_unix_day seconds) nanos) done))))

-- the text by a form of text, and the call that writes it into so many bytes
abbrev pub text_ladder : AnnouncedRows → JulianDate → Ladder
text_ladder t jd = table_first t (parts_then jd.jd1 jd.jd2 done)

abbrev pub text_call_ladder : TextForm → AnnouncedRows → JulianDate → ℕ → Ladder
text_call_ladder textForm t jd room =
    table_first t
    (parts_then jd.jd1 jd.jd2
    (refuse 11 ((text : List ℕ) × (iso_text_by textForm (rows_of t) jd ≡ answer text) × (room < length text)) done))
