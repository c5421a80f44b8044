-- From a calendar date to a Julian date and back. Written from document 01, "Calendar date" and "Refusals by number", and the Rust's `calendar_to_julian` and
-- `julian_to_calendar` (scales/conversions/utc_tai/mod.rs) and `from_calendar` (julian/mod.rs). What the day of an answer is in ISO 8601's calendar is proved
-- (`exact-date` in `julian::laws`). Assumes nothing.
use Rattle.std.specs.Prelude.{ℕ, ℤ, pos, Float}
use Rattle.std.specs.Float.{binary64}
use Rattle.std.specs.Float.Ieee.{of_int}
use Rattle.refusals.specs.Outcome.{Outcome, answer, onward}
use Rattle.floats.specs.Whole.{nought}
use Rattle.constants.specs.Constants.{mjd_zero_point}
use Rattle.calendar.specs.declared.CalendarDate.{CalendarDate}
use Rattle.calendar.specs.DayCount.{mjd_of}
use Rattle.calendar.specs.Gregorian.{gregorian_date}
use Rattle.julian.specs.day_number.Answer.{day_number_and_fraction}
use Rattle.julian.specs.declared.JulianDate.{JulianDate}
use Rattle.julian.specs.declared.CalendarFields.{CalendarFields}
use Rattle.julian.specs.JulianDate.{julian, rounded_sum}
use Rattle.julian.specs.DayFraction.{day_fraction}

-- document 01: "`calendar_to_julian` gives (2400000.5, MJD)"
unfoldable pub calendar_to_julian : ℤ → ℤ → ℤ → Outcome JulianDate
calendar_to_julian y m d = onward (mjd_of y m d) (λ n. answer (julian mjd_zero_point (of_int binary64 n)))

-- the rounded sum of midnight's parts in jd1, the fraction of the day in jd2
unfoldable pub at_time : JulianDate → Outcome Float → Outcome JulianDate
at_time midnight fraction = onward fraction (λ f. answer (julian (rounded_sum midnight) f))

-- the date's refusals, then 4
unfoldable pub from_calendar : ℤ → ℕ → ℕ → ℕ → ℕ → Float → Outcome JulianDate
from_calendar y m d hour minute second = onward (calendar_to_julian y (pos m) (pos d)) (λ midnight. at_time midnight (day_fraction hour minute second nought))

abbrev pub fields : CalendarDate → Float → CalendarFields
fields date fraction = record { date = date; fraction = fraction }

-- the date of the day number, and the fraction; 6 is handed on
unfoldable pub julian_to_calendar : Float → Float → Outcome CalendarFields
julian_to_calendar jd1 jd2 = onward (day_number_and_fraction jd1 jd2) (λ n. answer (fields (gregorian_date n.day) n.fraction))
