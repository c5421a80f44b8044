-- A form of UTC text: the two things that document 01's text and document 02's items 4 and 6 do not share. Assumes nothing.
use Rattle.std.specs.Prelude.{ℕ, List, Float}
use Rattle.calendar.specs.declared.CalendarDate.{CalendarDate}
use Rattle.time_of_day.specs.declared.TimeOfDay.{TimeOfDay}

-- how many milliseconds a fraction of a day is, by the leap that counts; and how a date and a time of day are written
pub record TextForm : Type 0 where
  pub count : Float → Float → ℕ
  pub write : CalendarDate → TimeOfDay → List ℕ
