-- A date that is not refused has a next one, a leap, and a text; one before year -4799 is refused with 1. For any table of rows. Assumes nothing.
use mathlib.Core.Path.{◌≡◌, refl, ◌∙◌}
use mathlib.Core.Bool.{false, ◌&&◌}
use mathlib.Core.List.{List}
use Prim.Native.Nat.{ℕ}
use lib.Dec.{eqb}
use lib.IntN.{pos}
use lib.Signed.{lt_z, le_z}
use lib.Ieee.{Float}
use Rattle.refusals.specs.Outcome.{answer, refusal, onward}
use Rattle.floats.specs.Whole.{away}
use Rattle.calendar.specs.declared.CalendarDate.{CalendarDate}
use Rattle.calendar.specs.Calendar.{next}
use Rattle.calendar.specs.Refusals.{next_of}
use Rattle.calendar.specs.DayCount.{mjd_number}
use Rattle.calendar.proofs.NextDates.{refused-next, by, first-false}
use Rattle.calendar.proofs.Years.{valid_of, before_last}
use Rattle.leap_table.specs.rows.Table.{Row, month_number}
use Rattle.leap_table.specs.offsets.Leap.{leap_of, offsets_of_day, leap_at_end_of_day}
use Rattle.leap_table.proofs.offsets.Days as Days
use Rattle.time_of_day.specs.declared.TimeOfDay.{TimeOfDay}
use Rattle.time_of_day.specs.declared.TimeShown.{TimeShown}
use Rattle.time_of_day.specs.declared.TimeShown.TheVariants.{At, NextMidnight}
use Rattle.time_of_day.specs.TimeShown.{shown_by, shown_of}
use Rattle.utc.specs.text.Text.{utc_text}
use Rattle.utc.specs.iso_texts.TextForm.{TextForm}
use Rattle.utc.specs.iso_texts.IsoText.{midnight, shown_text_by, day_text_by, day_text, standard_form}
use Rattle.utc.proofs.iso_texts.TextCalls.{next-given, leap-refused, leap-given}

-- the text of a date that has a next one, by a way to write a date and a time; and document 01's
abbrev pub text_by : (CalendarDate → TimeOfDay → List ℕ) → CalendarDate → TimeShown → List ℕ
text_by write d (At t) = write d t
text_by write d NextMidnight = write (next d) midnight

abbrev pub text_of : CalendarDate → TimeShown → List ℕ
text_of d r = text_by utc_text d r

module _ (rows : List Row) (d : CalendarDate) where
  pub refused-early : (k : ℕ) → valid_of d ≡ refusal k → leap_at_end_of_day rows d.year (pos d.month) (pos d.day) ≡ refusal k
  unfolding leap_at_end_of_day onward
  refused-early k e = rw (Days.day-offsets-are rows d.year (pos d.month) (pos d.day), refused-next d.year (pos d.month) (pos d.day) k e)

  pub text-refused-by : (textForm : TextForm) (f : Float) (k : ℕ) → valid_of d ≡ refusal k → day_text_by textForm rows d f ≡ refusal k
  text-refused-by textForm f k e = leap-refused textForm rows d f k (refused-early k e)

  pub text_refused : (f : Float) (k : ℕ) → valid_of d ≡ refusal k → day_text rows d f ≡ refusal k
  text_refused = text-refused-by standard_form

  module _ (v : valid_of d ≡ answer tt) (h : lt_z (pos 2733194) d.year ≡ false) where
    pub has_next : next_of d.year (pos d.month) (pos d.day) ≡ answer (next d)
    has_next = by d.year (pos d.month) (pos d.day) v false
        (first-false (le_z (pos 2147483647) d.year) (eqb d.month 12 && eqb d.day 31) (before_last d.year h))

    abbrev pub leap_on : Float
    leap_on = leap_of (offsets_of_day rows (month_number d.year d.month) (month_number (next d).year (next d).month)
        (mjd_number d.year (pos d.month) (pos d.day)))

    pub has-leap : leap_at_end_of_day rows d.year (pos d.month) (pos d.day) ≡ answer leap_on
    has-leap = Days.leap-given rows d.year (pos d.month) (pos d.day) (next d) has_next

    shown : (write : CalendarDate → TimeOfDay → List ℕ) (r : TimeShown) → shown_text_by write d r ≡ answer (text_by write d r)
    unfolding shown_text_by
    shown write (At t) = refl
    shown write NextMidnight = next-given write d (next d) has_next

    pub has-text-by : (textForm : TextForm) (f : Float) → day_text_by textForm rows d f ≡ answer (text_by textForm.write d (shown_by textForm.count f leap_on))
    has-text-by textForm f = leap-given textForm rows d f leap_on has-leap ∙ shown textForm.write (shown_by textForm.count f leap_on)

    pub has-text : (f : Float) → day_text rows d f ≡ answer (text_of d (shown_of away f leap_on))
    has-text = has-text-by standard_form
