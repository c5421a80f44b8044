-- Published weeks, and cases at the edges. IS-GPS-200 counts from 1980-01-06; the ten bits began anew on 1999-08-22 and 2019-04-07. Assumes nothing.
use Rattle.std.proofs.Common.{◌≡◌, ℕ, ◌+◌, ◌*◌, ℤ, pos, ◌+ℤ◌, nat_abs, sym, refl, ap, ◌∙◌}
use lib.Ieee.{binary64, of_bits, round, lt, add, sub, mul, div, neg, to_signed}
use Rattle.refusals.specs.Outcome.{Outcome, answer, refusal, onward}
use Rattle.floats.specs.Whole.{to_whole}
use Rattle.calendar.specs.Calendar.{lengths, days_in_month, date, date_of}
use Rattle.calendar.specs.Refusals.{valid_date}
use Rattle.calendar.specs.DayCount.{civil_count, mjd_number, mjd_of}
use Rattle.calendar.proofs.Mjd.{mjd-meaning}
use Rattle.julian.specs.day_number.Answer.{day_number_and_fraction}
use Rattle.julian.specs.JulianDate.{julian}
use Rattle.julian.specs.Finite.{finite_jd}
use Rattle.time_of_day.specs.TimeShown.{from_zero}
use Rattle.scales.specs.declared.gps_weeks.WeekTime.{WeekTime}
use Rattle.scales.specs.gps_weeks.WeekDate.{first_day, part_of_day}
use Rattle.scales.specs.gps_weeks.WeekOf.{week_time, product_of, day_millis, week_at, week_of_day, week_of}

-- ---- the dates on which weeks begin

has_date : (y m d n : ℤ) → (v : valid_date y m d ≡ answer tt) → mjd_of y m d ≡ answer n → date_of (n +ℤ pos 2400001) ≡ date y (nat_abs m) (nat_abs d)
has_date y m d n v e = let g = mjd-meaning y m d v in let k : answer n ≡ answer g.n = sym e ∙ g.given in let j : n ≡ g.n =
    cc in ap (λ (x : ℤ). date_of (x +ℤ pos 2400001)) j ∙ g.has_date

pub first-day-is-1980-01-06 : date_of (pos first_day) ≡ date (pos 1980) 1 6
unfolding mjd_of mjd_number civil_count valid_date onward days_in_month lengths
first-day-is-1980-01-06 = has_date (pos 1980) (pos 1) (pos 6) (pos 44244) refl refl

pub week-1024-begins-1999-08-22 : date_of (pos (first_day + 7 * 1024)) ≡ date (pos 1999) 8 22
unfolding mjd_of mjd_number civil_count valid_date onward days_in_month lengths
week-1024-begins-1999-08-22 = has_date (pos 1999) (pos 8) (pos 22) (pos 51412) refl refl

pub week-2048-begins-2019-04-07 : date_of (pos (first_day + 7 * 2048)) ≡ date (pos 2019) 4 7
unfolding mjd_of mjd_number civil_count valid_date onward days_in_month lengths
week-2048-begins-2019-04-07 = has_date (pos 2019) (pos 4) (pos 7) (pos 58580) refl refl

-- ---- a day's part is divided once

-- 27 ms: divided by 1000 and then by 86400, or taken times the float nearest to 1 / 86400000, it is the float below
pub divided-once : part_of_day 27 ≡ of_bits binary64 0x3e94_f8b5_88e3_68f1
unfolding part_of_day round of_bits
divided-once = refl

-- ---- the edges

-- the outcome of two floats by their bits
abbrev pub at : ℕ → ℕ → Outcome WeekTime
at x y = week_of (julian (of_bits binary64 x) (of_bits binary64 y))

-- (2444244.5, 5.787037037037036e-09): the product is the float below 0.5, so millisecond 0, though it plus 0.5 rounds to 1.0
pub below-a-half : at 0x4142_a5ea_4000_0000 0x3e38_daea_1d7f_4cf6 ≡ answer (week_time 0 0)
unfolding week_of finite_jd onward week_of_day week_at day_millis product_of from_zero to_whole to_signed mul round day_number_and_fraction of_bits lt add sub
    div neg
below-a-half = refl

-- (2444244.5, 5.787037037037037e-09): the product is exactly 0.5, and a half goes up, to the odd millisecond too
pub up_from_a_half : at 0x4142_a5ea_4000_0000 0x3e38_daea_1d7f_4cf7 ≡ answer (week_time 0 1)
unfolding week_of finite_jd onward week_of_day week_at day_millis product_of from_zero to_whole to_signed mul round day_number_and_fraction of_bits lt add sub
    div neg
up_from_a_half = refl

-- (2444244.5, -0.5 ms): its day is 1980-01-05, and the rounded count is the first of week 0; 2^-27 day, 0.64 ms, before it the date is before the first week
pub into-the-first-week : (at 0x4142_a5ea_4000_0000 0xbe38_daea_1d7f_4cf7 ≡ answer (week_time 0 0))
    × (at 0x4142_a5ea_4000_0000 0xbe40_0000_0000_0000 ≡ refusal 18)
unfolding week_of finite_jd onward week_of_day week_at day_millis product_of from_zero to_whole to_signed mul round day_number_and_fraction of_bits lt add sub
    div neg
into-the-first-week = (refl, refl)

-- (3144251.5, -0.5 ms): half a millisecond before the end of week 100,000 is past the last week; 0.64 ms before it is the week's last millisecond
pub out-of-the-last-week : (at 0x4147_fd1d_c000_0000 0xbe38_daea_1d7f_4cf7 ≡ refusal 18)
    × (at 0x4147_fd1d_c000_0000 0xbe40_0000_0000_0000 ≡ answer (week_time 100000 604799999))
unfolding week_of finite_jd onward week_of_day week_at day_millis product_of from_zero to_whole to_signed mul round day_number_and_fraction of_bits lt add sub
    div neg
out-of-the-last-week = (refl, refl)

-- (infinity, -infinity) is 9, though its sum is no number; (1.7e308, 1.7e308) is finite and 6
pub nine-before-six : (at 0x7ff0_0000_0000_0000 0xfff0_0000_0000_0000 ≡ refusal 9) × (at 0x7fee_42d1_3077_3b76 0x7fee_42d1_3077_3b76 ≡ refusal 6)
unfolding week_of finite_jd onward week_of_day week_at day_millis product_of from_zero to_whole to_signed mul round day_number_and_fraction of_bits lt add sub
    div neg
nine-before-six = (refl, refl)
