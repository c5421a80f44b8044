-- GPS WEEKS AS DOCUMENT 02, ITEM 7, ASKS: to a date, back, the week of ten bits, and the refusals. Assumes nothing.
use Rattle.std.proofs.Common.{ℕ}
use Rattle.julian.specs.declared.JulianDate.{JulianDate}
use Rattle.scales.specs.gps_week_laws.Weeks.{DateToWeek, NearestGiven, WeekToDate, WeeksRefused}
use Rattle.scales.proofs.gps_weeks.FullWeeks.{nearest-if, nearest-only-if, over-exactly, tie_exactly}
use Rattle.scales.proofs.gps_weeks.Parts.{part-is}
use Rattle.scales.proofs.gps_week_laws.Cases.{first-day-is-1980-01-06, up_from_a_half}
use Rattle.scales.proofs.gps_week_laws.CalendarDates.{on-calendar}
use Rattle.scales.proofs.gps_week_laws.NearDates.{of_day}
use Rattle.scales.proofs.gps_week_laws.Refusals.{from-week-decided, to-week-decided}

pub week-to-date : (week ms : ℕ) (d : JulianDate) → WeekToDate week ms d
week-to-date week ms d = record {
  first-day = first-day-is-1980-01-06;
  to_date = from-week-decided week ms;
  on_its_day = on-calendar week ms d;
  rounded_once = part-is ms;
}

pub date-to-week : (d : JulianDate) → DateToWeek d
date-to-week d = record { way_back = λ t e. let o = of_day d t e in (o.number, o.n, o.given, o.is, o.count); halves_up = up_from_a_half }

pub nearest_given : (bits reference w : ℕ) → NearestGiven bits reference w
nearest_given bits reference w = record { nearest = nearest-if bits reference w; given = nearest-only-if bits reference w }

pub weeks_refused : (d : JulianDate) (bits reference : ℕ) → WeeksRefused d bits reference
weeks_refused d bits reference = record {
  to_week = to-week-decided d;
  over = (over-exactly bits reference).1;
  tied = (tie_exactly bits reference).1;
  ties_only = (tie_exactly bits reference).0;
}
