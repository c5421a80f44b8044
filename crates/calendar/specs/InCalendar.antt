-- Which dates are dates of the calendar, of any year. Written from ISO 8601: month 1 to 12, and a day of that month. It is a premise of `the_calendar`. Assumes
-- nothing.
use Rattle.std.specs.Prelude.{◌≤◌}
use Rattle.calendar.specs.declared.CalendarDate.{CalendarDate}
use Rattle.calendar.specs.Calendar.{month_length}

pub record InCalendar (t : CalendarDate) : Type 0 where
  pub m_low : 1 ≤ t.month
  pub m_high : t.month ≤ 12
  pub d_low : 1 ≤ t.day
  pub d_high : t.day ≤ month_length t.year t.month
