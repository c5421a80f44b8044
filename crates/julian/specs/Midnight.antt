-- What the Julian date of a calendar date is worth: the midnight that begins its day. Written from document 01, "Julian date" and "Calendar date". Assumes
-- nothing.
use Rattle.std.specs.Prelude.{◌+◌, ◌*◌, ◌≡◌, ℤ, pos, nat_abs, ◌+ℤ◌}
use Rattle.std.specs.Float.{binary64}
use Rattle.std.specs.Float.Ieee.{of_int}
use Rattle.refusals.specs.Outcome.{answer}
use Rattle.constants.specs.Constants.{mjd_zero_point}
use Rattle.rounding.specs.Value.{Val, plus_z, minus_z}
use Rattle.calendar.specs.Calendar.{date, date_of}
use Rattle.calendar.specs.DayCount.{mjd_of}
use Rattle.julian.specs.JulianDate.{julian, rounded_sum}
use Rattle.julian.specs.Worth.{Worth}
use Rattle.julian.specs.Calendar.{calendar_to_julian}

-- n is the Modified Julian Date of the date; the second part is worth exactly n, both parts and their rounded sum exactly n + 2400000.5 days; and the day with
-- the number n + 2400001, which begins there, has the date
pub record MidnightOf (y m d n : ℤ) : Type 0 where
  pub mjd : mjd_of y m d ≡ answer n
  pub given : calendar_to_julian y m d ≡ answer (julian mjd_zero_point (of_int binary64 n))
  pub second : Val (of_int binary64 n) (plus_z n) (minus_z n) 1
  pub exactly : Worth (julian mjd_zero_point (of_int binary64 n)) (4800001 + plus_z n * 2) (minus_z n * 2) 2
  pub sum : Val (rounded_sum (julian mjd_zero_point (of_int binary64 n))) (4800001 + plus_z n * 2) (minus_z n * 2) 2
  pub has_date : date_of (n +ℤ pos 2400001) ≡ date y (nat_abs m) (nat_abs d)
