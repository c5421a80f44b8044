-- What holds of every answer of `julian_to_calendar`: its range, and how near it is to the exact date. Written from document 01, "Calendar date" and "Day and
-- fraction", and document 02's request 14. Assumes nothing.
use Rattle.std.specs.Prelude.{◌≡◌, ◌≤◌, ℤ, negsuc}
use Rattle.calendar.specs.declared.CalendarDate.{CalendarDate}
use Rattle.calendar.specs.Calendar.{date, date_of}
use Rattle.calendar.specs.Gregorian.{gregorian_date}
use Rattle.julian.specs.day_number.Ranges.{InDays}
use Rattle.julian.specs.day_number.NearDay.{DayNear}
use Rattle.julian.specs.declared.CalendarFields.{CalendarFields}
use Rattle.julian.specs.declared.JulianDate.{JulianDate}
use Rattle.julian.specs.Worth.{Worth}
use Rattle.rounding.specs.Value.{InUnit, L, plus_z, minus_z}

-- the answer is the date of a day from -68570 to 10^9, and a fraction from 0.0 to below 1.0
pub record FieldsInRange (f : CalendarFields) : Type 0 where
  pub day : ℤ
  pub in-days : InDays day
  pub date : f.date ≡ gregorian_date day
  pub fraction : InUnit f.fraction

-- t is the date of day z: the calendar's, from the day -68569 on, which is -4900-03-01; and -4900-02-30 counts as the day before it
pub data DateOfDay (t : CalendarDate) : ℤ → Type 0 where
  by_calendar : {z : ℤ} → minus_z z ≤ 68569 → t ≡ date_of z → DateOfDay t z
  before_first : t ≡ date (negsuc 4899) 2 30 → DateOfDay t (negsuc 68569)

-- the day of the date and the fraction are within 2^-51 day of the exact sum plus one half
pub record NearDate (sum : ℤ) (f : CalendarFields) : Type 0 where
  pub day : ℤ
  pub date : DateOfDay f.date day
  pub near : DayNear sum day f.fraction

-- the same of a Julian date, whose exact sum is `sum` units of 2^-1074 day
pub record DayPlusFraction (d : JulianDate) (f : CalendarFields) : Type 0 where
  pub sum : ℤ
  pub worth : Worth d (plus_z sum) (minus_z sum) L
  pub near : NearDate sum f
