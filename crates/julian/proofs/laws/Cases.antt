-- Cases of two-part Julian dates at the edges of the float arithmetic and of the refusals, each computed from the definitions. Document 01's worked cases are a
-- table of their own (crate `worked_cases`). Assumes nothing.
use mathlib.Core.Path.{◌≡◌, refl}
use Prim.Native.Nat.{ℕ, ◌*◌, ◌^◌}
use mathlib.Core.Bool.{true, false}
use lib.IntN.{pos, negsuc}
use lib.Ieee.{Float, nan, inf, fin, binary64, of_bits, round, of_int, add, sub, mul, div, neg, lt, le, eq}
use Rattle.refusals.specs.Outcome.{answer, refusal, onward}
use Rattle.floats.specs.Whole.{to_whole, cut}
use Rattle.constants.specs.Constants.{decimal, mjd_zero_point, j2000_jd, unix_epoch_jd, seconds_per_day, nanoseconds_per_second, days_per_julian_year}
use Rattle.calendar.specs.Calendar.{leap_size, lengths, days_in_month}
use Rattle.calendar.specs.Refusals.{valid_date}
use Rattle.calendar.specs.DayCount.{civil_count, mjd_number, mjd_of}
use Rattle.julian.specs.JulianDate.{julian, rounded_sum, uncarried, add_days, add_seconds, difference}
use Rattle.julian.specs.JulianYear.{to_julian_year, from_julian_year}
use Rattle.julian.specs.UnixTime.{second_of_day, from_unix_time}
use Rattle.julian.specs.Equality.{two_sum_error, exact_sum, sums, equal}
use Rattle.julian.specs.DayFraction.{second_limit, time_in_day, day_fraction}
use Rattle.julian.specs.Calendar.{calendar_to_julian, at_time, from_calendar}

-- ---- refusals of `from_calendar`, which knows no leap second: 60.0; and the date before the time

pub no_leap_second : from_calendar (pos 2015) 12 31 23 59 (decimal 60 0) ≡ refusal 4
unfolding from_calendar at_time calendar_to_julian onward mjd_of mjd_number civil_count valid_date days_in_month leap_size lengths day_fraction time_in_day
    second_limit add
    lt le eq round
no_leap_second = refl

pub date-first : from_calendar (pos 1900) 2 29 24 0 (decimal 0 0) ≡ refusal 3
unfolding from_calendar calendar_to_julian onward mjd_of mjd_number civil_count valid_date days_in_month leap_size lengths
date-first = refl

-- ---- a Unix time before 1970 divides toward zero: the day stays, and the time is negative

pub second-before-1970 : from_unix_time (negsuc 0) 0 ≡ julian (decimal 24405875 1) (neg (div binary64 (decimal 1 0) (decimal 86400 0)))
unfolding from_unix_time second_of_day unix_epoch_jd seconds_per_day nanoseconds_per_second of_int round add div neg
second-before-1970 = refl

-- ---- a negative zero is kept: the Rust's trunc of -0.3 is -0.0

abbrev pub minus-zero : Float
minus-zero = fin true 0 (pos 0)

-- -0.3
abbrev pub minus-three-tenths : Float
minus-three-tenths = fin true 5404319552844595 (negsuc 53)

three-tenths : neg (decimal 3 1) ≡ minus-three-tenths
unfolding round neg
three-tenths = refl

cut-to-zero : to_whole cut minus-three-tenths ≡ minus-zero
unfolding to_whole round
cut-to-zero = refl

less_zero : sub binary64 minus-three-tenths minus-zero ≡ minus-three-tenths
unfolding sub neg add round
less_zero = refl

more-zero : add binary64 minus-zero minus-three-tenths ≡ minus-three-tenths
unfolding add round
more-zero = refl

zeros : add binary64 minus-zero minus-zero ≡ minus-zero
unfolding add round
zeros = refl

pub minus-zero-kept : add_days (julian minus-zero minus-zero) (neg (decimal 3 1)) ≡ julian minus-zero (neg (decimal 3 1))
unfolding add_days uncarried
minus-zero-kept = simp (three-tenths, cut-to-zero, less_zero, more-zero, zeros)

-- 0.25 less 0.3 of a day: nothing is carried, and jd2 is below 0
pub less-than-a-day : add_days (julian (decimal 24515445 1) (decimal 25 2)) (neg (decimal 3 1)) ≡ julian (decimal 24515445 1)
    (of_bits binary64 0xbfa9_9999_9999_9998)
unfolding add_days uncarried to_whole add sub neg round of_bits
less-than-a-day = refl

-- ---- equality where the parts are not under 2^52: two dates whose two-sum overflows are unequal to themselves (for a NaN, and for sums that are not finite,
-- see NotFinite)

abbrev pub large : ℕ → ℕ → Float
large n k = round binary64 false (n * 10 ^ k) 1

pub overflow_unequal : equal (julian (large 29937604643020797 276) (neg (large 17976931348623157 292)))
    (julian (large 29937604643020797 276) (neg (large 17976931348623157 292))) ≡ false
unfolding equal sums exact_sum two_sum_error round neg add sub eq
overflow_unequal = refl

pub infinite_sum_equal : equal (julian (large 1 308) (large 1 308)) (julian (large 1 308) (large 1 308)) ≡ true
unfolding equal sums exact_sum two_sum_error round neg add sub eq
infinite_sum_equal = refl

-- ---- the Julian year 2000.0 is J2000.0, there and back

pub year-of-j2000 : to_julian_year (julian j2000_jd (decimal 0 0)) ≡ decimal 2000 0
unfolding to_julian_year j2000_jd days_per_julian_year add sub div round of_bits
year-of-j2000 = refl

pub j2000_of_year : from_julian_year (decimal 2000 0) ≡ julian mjd_zero_point (decimal 515445 1)
unfolding from_julian_year mjd_zero_point j2000_jd days_per_julian_year add sub mul round of_bits
j2000_of_year = refl

-- ---- years off 2000, by the almanacs' Julian dates: J2100.0 is JD 2488070.0, J1950.0 is JD 2433282.5, J1900.0 is JD 2415020.0

pub year-of-j2100 : to_julian_year (julian (decimal 2488070 0) (decimal 0 0)) ≡ decimal 2100 0
unfolding to_julian_year j2000_jd days_per_julian_year add sub div round
year-of-j2100 = refl

pub j2100_of_year : from_julian_year (decimal 2100 0) ≡ julian mjd_zero_point (decimal 880695 1)
unfolding from_julian_year mjd_zero_point j2000_jd days_per_julian_year add sub mul round
j2100_of_year = refl

pub year-of-j1950 : to_julian_year (julian (decimal 2433282 0) (decimal 5 1)) ≡ decimal 1950 0
unfolding to_julian_year j2000_jd days_per_julian_year add sub div round
year-of-j1950 = refl

pub j1950_of_year : from_julian_year (decimal 1950 0) ≡ julian mjd_zero_point (decimal 33282 0)
unfolding from_julian_year mjd_zero_point j2000_jd days_per_julian_year add sub mul round
j1950_of_year = refl

pub year-of-j1900 : to_julian_year (julian (decimal 2415020 0) (decimal 0 0)) ≡ decimal 1900 0
unfolding to_julian_year j2000_jd days_per_julian_year add sub div round
year-of-j1900 = refl

pub j1900_of_year : from_julian_year (decimal 1900 0) ≡ julian mjd_zero_point (decimal 150195 1)
unfolding from_julian_year mjd_zero_point j2000_jd days_per_julian_year add sub mul round
j1900_of_year = refl

-- ---- 18:45 on 2000-01-01 is 0.78125 of the day, and 45:18 is no time: hour and minute in their order

pub quarter_to_seven : from_calendar (pos 2000) 1 1 18 45 (decimal 0 0) ≡ answer (julian (decimal 24515445 1) (decimal 78125 5))
unfolding from_calendar at_time calendar_to_julian rounded_sum mjd_zero_point seconds_per_day onward mjd_of mjd_number civil_count valid_date days_in_month
    leap_size lengths
    day_fraction time_in_day second_limit of_int add mul div lt le eq round
quarter_to_seven = refl

-- ---- a day whose leap is not finite has no times: 12:00 is refused; with a leap of a second noon is 43,200 s of 86,401

pub nan_leap : day_fraction 12 0 (decimal 0 0) nan ≡ refusal 4
unfolding day_fraction time_in_day second_limit seconds_per_day of_int add mul div lt le eq round
nan_leap = refl

pub infinite_leap : day_fraction 12 0 (decimal 0 0) (inf false) ≡ refusal 4
unfolding day_fraction time_in_day second_limit seconds_per_day of_int add mul div lt le eq round
infinite_leap = refl

pub noon_before_a_leap_second : day_fraction 12 0 (decimal 0 0) (decimal 1 0) ≡ answer (div binary64 (decimal 43200 0) (decimal 86401 0))
unfolding day_fraction time_in_day second_limit seconds_per_day of_int add mul div lt le eq round
noon_before_a_leap_second = refl

-- ---- the difference is no order: 0.0 for dates that are not equal, as 2^23 + 2^-31 rounds to 2^23

-- 2^23, -2^23 and -2^-31
abbrev pub far : Float
far = fin false 1 (pos 23)

abbrev pub far_before : Float
far_before = fin true 1 (pos 23)

abbrev pub just_before : Float
just_before = fin true 1 (negsuc 30)

pub difference-is-no-order : (difference (julian far far_before) (julian just_before (decimal 0 0)) ≡ decimal 0 0)
    × (equal (julian far far_before) (julian just_before (decimal 0 0)) ≡ false)
unfolding difference equal sums exact_sum two_sum_error round neg add sub eq
difference-is-no-order = (refl, refl)

-- ---- sums: 1.0 and 0.5; half a day more to 0.5 and 0.75 carries a day; 43,200 s are half a day

pub rounded-sum : rounded_sum (julian (of_bits binary64 0x3ff0_0000_0000_0000) (of_bits binary64 0x3fe0_0000_0000_0000))
    ≡ of_bits binary64 0x3ff8_0000_0000_0000
unfolding rounded_sum add sub neg round of_bits
rounded-sum = refl

pub a-day-carried : add_days (julian (of_bits binary64 0x3fe0_0000_0000_0000) (of_bits binary64 0x3fe8_0000_0000_0000)) (of_bits binary64 0x3fe0_0000_0000_0000)
    ≡ julian (of_bits binary64 0x3ff8_0000_0000_0000) (of_bits binary64 0x3fd0_0000_0000_0000)
unfolding add_days uncarried to_whole add sub neg round of_bits
a-day-carried = refl

pub half-a-day-of-seconds : add_seconds (julian (of_bits binary64 0x4142_b42c_8000_0000) (of_bits binary64 0)) (of_bits binary64 0x40e5_1800_0000_0000)
    ≡ julian (of_bits binary64 0x4142_b42c_8000_0000) (of_bits binary64 0x3fe0_0000_0000_0000)
unfolding add_seconds add_days uncarried seconds_per_day to_whole add sub neg div round of_bits
half-a-day-of-seconds = refl

-- ---- from (1.0, 0.25) to (2.0, 0.5) are 1.25 days
pub difference-of-parts : difference (julian (of_bits binary64 0x4000_0000_0000_0000) (of_bits binary64 0x3fe0_0000_0000_0000))
    (julian (of_bits binary64 0x3ff0_0000_0000_0000) (of_bits binary64 0x3fd0_0000_0000_0000)) ≡ of_bits binary64 0x3ff4_0000_0000_0000
unfolding difference add sub neg round of_bits
difference-of-parts = refl
