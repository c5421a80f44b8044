-- THE CALENDAR IS ISO 8601'S: it begins at 2000-01-01 and steps by dates, no other count does, and both ways of the library are it. Assumes nothing.
use lib.IntN.{ℤ}
use Rattle.calendar.specs.laws.IsoCalendar.{IsoCalendar}
use Rattle.calendar.proofs.Days.{day-2451545-is-2000-01-01, next-number-is-next-date}
use Rattle.calendar.proofs.Unique.{the_calendar}
use Rattle.calendar.proofs.Gregorian.{gregorian_is_date_of_day}
use Rattle.calendar.proofs.Mjd.{mjd-meaning}

pub iso_calendar : (n y m d : ℤ) → IsoCalendar n y m d
iso_calendar n y m d = record {
  anchor = day-2451545-is-2000-01-01;
  step = next-number-is-next-date n;
  no_other = λ f h s a. the_calendar f h s a n;
  to_date = gregorian_is_date_of_day n;
  to_day = mjd-meaning y m d;
}
