-- What the calendar says of a week's date. Written from IS-GPS-200 (week 0 begins on 1980-01-06) and document 01, "Calendar date". Assumes nothing.
use Rattle.std.specs.Prelude.{◌≡◌, ℕ, ◌%◌, pos, Float}
use Rattle.refusals.specs.Outcome.{answer}
use Rattle.calendar.specs.Calendar.{date_of}
use Rattle.julian.specs.declared.JulianDate.{JulianDate}
use Rattle.julian.specs.Calendar.{fields, julian_to_calendar}
use Rattle.scales.specs.gps_weeks.WeekDate.{day_in}
use Rattle.scales.specs.gps_weeks.WeekOf.{day_millis}

-- `julian_to_calendar` answers with the day that is 7 week + ms / 86,400,000 days after 1980-01-06, and a fraction whose milliseconds are those of the day
pub record OnCalendar (week ms : ℕ) (d : JulianDate) : Type 0 where
  pub fraction : Float
  pub given : julian_to_calendar d.jd1 d.jd2 ≡ answer (fields (date_of (pos (day_in week ms))) fraction)
  pub millis : day_millis fraction ≡ ms % 86400000
