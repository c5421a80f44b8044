-- What the calls of `julian` mean in exact numbers, and to what distance: a clock time of a date, days and seconds added, a difference, and the Julian year.
-- Written from document 01, "Julian date", "Calendar date" and "Refusals by number"; 365.25 is said as 1461 / 4, 86,400 and J2000.0 by their digits, apart from
-- the code's constants, so that a wrong digit of either is noticed. The bounds are this project's own. Assumes nothing.
use Rattle.std.specs.Prelude.{ℕ, ◌+◌, ◌*◌, ◌^◌, ◌≤◌, ◌≡◌, ℤ, pos, Float}
use Rattle.refusals.specs.Outcome.{answer}
use Rattle.rounding.specs.Value.{Val, L, plus_z, minus_z}
use Rattle.rounding.specs.Picoseconds.{day_ps, Within}
use Rattle.calendar.specs.DayCount.{mjd_of}
use Rattle.julian.specs.declared.JulianDate.{JulianDate}
use Rattle.julian.specs.JulianDate.{difference}
use Rattle.julian.specs.Worth.{Worth}

-- x is (p - n) / L, and at most K in size
pub record UpTo (K : ℕ) (x : Float) : Type 0 where
  pub p : ℕ
  pub n : ℕ
  pub val : Val x p n L
  pub high : p ≤ n + K * L
  pub low : n ≤ p + K * L

-- x is a whole number of half days, at most K days in size, as midnights and noons are
pub record HalfDays (K : ℕ) (x : Float) : Type 0 where
  pub p : ℕ
  pub n : ℕ
  pub val : Val x p n 2
  pub high : p ≤ n + K * 2
  pub low : n ≤ p + K * 2

-- the date is that of the calendar date y-m-d at the clock time: jd1 is exactly its midnight, n + 2400000.5 days for the Modified Julian Date n; jd2 is within
-- ps picoseconds of (3600 * hour + 60 * minute + second) / 86400 days, the second taken at its exact value, x / L
pub record AtClock (ps : ℕ) (y : ℤ) (m d hour minute : ℕ) (second : Float) (date : JulianDate) : Type 0 where
  pub n : ℤ
  pub mjd : mjd_of y (pos m) (pos d) ≡ answer n
  pub midnight : Val date.jd1 (4800001 + plus_z n * 2) (minus_z n * 2) 2
  pub x : ℕ
  pub seconds : Val second x 0 L
  pub time : Within ps date.jd2 ((3600 * hour + 60 * minute) * L + x) 0 (L * 86400)

-- d' is within ps picoseconds of d and (a - b) / (c * L) days, the dates taken at their exact values, (p - n) / L and (p' - n') / L days
pub record LaterBy (ps a b c : ℕ) (d d' : JulianDate) : Type 0 where
  pub p : ℕ
  pub n : ℕ
  pub p' : ℕ
  pub n' : ℕ
  pub from : Worth d p n L
  pub to : Worth d' p' n' L
  pub over : day_ps * (c * (p' + n) + b) ≤ day_ps * (c * (n' + p) + a) + ps * (c * L)
  pub under : day_ps * (c * (n' + p) + a) ≤ day_ps * (c * (p' + n) + b) + ps * (c * L)

-- the difference of d and e is within ps picoseconds of the exact one
pub record DifferenceNear (ps : ℕ) (d e : JulianDate) : Type 0 where
  pub p : ℕ
  pub n : ℕ
  pub q : ℕ
  pub m : ℕ
  pub first : Worth d p n L
  pub second : Worth e q m L
  pub near : Within ps (difference d e) (p + m) (n + q) L

-- the year is within u * 10 ^ -12 years of 2000 + (JD - 2451545) / 365.25, for the date's exact value JD: 1461 * (year - 2000) against 4 * (JD - 2451545)
pub record YearOf (u : ℕ) (d : JulianDate) (year : Float) : Type 0 where
  pub p : ℕ
  pub n : ℕ
  pub a : ℕ
  pub b : ℕ
  pub worth : Worth d p n L
  pub val : Val year a b L
  pub over : 10 ^ 12 * (1461 * a + 4 * (n + 2451545 * L)) ≤ 10 ^ 12 * (1461 * (b + 2000 * L) + 4 * p) + u * (1461 * L)
  pub under : 10 ^ 12 * (1461 * (b + 2000 * L) + 4 * p) ≤ 10 ^ 12 * (1461 * a + 4 * (n + 2451545 * L)) + u * (1461 * L)

-- the date is within ps picoseconds of 2451545 + (year - 2000) * 365.25 days
pub record DateOfYear (ps : ℕ) (year : Float) (d : JulianDate) : Type 0 where
  pub p : ℕ
  pub n : ℕ
  pub a : ℕ
  pub b : ℕ
  pub worth : Worth d p n L
  pub val : Val year a b L
  pub over : day_ps * (4 * p + 1461 * (b + 2000 * L)) ≤ day_ps * (4 * (n + 2451545 * L) + 1461 * a) + ps * (4 * L)
  pub under : day_ps * (4 * (n + 2451545 * L) + 1461 * a) ≤ day_ps * (4 * p + 1461 * (b + 2000 * L)) + ps * (4 * L)
