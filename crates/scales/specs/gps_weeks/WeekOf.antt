-- The week of a GPS date, and its milliseconds. Written from document 02, item 7: "The way back takes document 01's day and fraction, multiplies the fraction
-- by 86,400,000 as floats and rounds that product halves up, carrying into the next day", 9 and then 6 as in document 01, 18 for "a rounded date before the
-- first week or past the last". Assumes nothing.
use Rattle.std.specs.Prelude.{ℕ, ◌+◌, ◌-◌, ◌*◌, ◌/◌, ◌%◌, cond, ℤ, pos, negsuc, nat_le, nat_lt, Float}
use Rattle.std.specs.Float.{binary64}
use Rattle.std.specs.Float.Ieee.{mul, to_signed}
use Rattle.refusals.specs.Outcome.{Outcome, answer, refusal, onward}
use Rattle.floats.specs.Whole.{to_whole, away}
use Rattle.constants.specs.Constants.{decimal}
use Rattle.julian.specs.day_number.Answer.{day_number_and_fraction}
use Rattle.julian.specs.declared.JulianDate.{JulianDate}
use Rattle.julian.specs.Finite.{finite_jd}
use Rattle.time_of_day.specs.TimeShown.{from_zero}
use Rattle.scales.specs.declared.gps_weeks.WeekTime.{WeekTime}
use Rattle.scales.specs.gps_weeks.WeekDate.{first_day}

abbrev pub week_time : ℕ → ℕ → WeekTime
week_time week ms = record { week = week; millis = ms }

-- the fraction times 86,400,000, as floats
unfoldable pub product_of : Float → Float
product_of fraction = mul binary64 fraction (decimal 86400000 0)

-- the exact value of that product to the nearest whole number; of a number from 0 up, a half that goes away from 0 goes up. It is never below 0 (`millis-near`)
unfoldable pub day_millis : Float → ℕ
day_millis fraction = from_zero (to_signed 63 (to_whole away (product_of fraction)))

-- the week of so many milliseconds since midnight of day 0
unfoldable pub week_at : ℕ → Outcome WeekTime
week_at count =
    cond (nat_lt count (first_day * 86400000)) (refusal 18)
    (cond (nat_le ((count - first_day * 86400000) / 604800000) 100000)
    (answer (week_time ((count - first_day * 86400000) / 604800000) ((count - first_day * 86400000) % 604800000)))
    (refusal 18))

-- a day with its milliseconds, 86,400,000 where the next day begins; a day below 0 is before the first week
unfoldable pub week_of_day : ℤ → ℕ → Outcome WeekTime
week_of_day (pos n) ms = week_at (n * 86400000 + ms)
week_of_day (negsuc n) ms = refusal 18

unfoldable pub week_of : JulianDate → Outcome WeekTime
week_of d = onward (finite_jd d) (λ e. onward (day_number_and_fraction e.jd1 e.jd2) (λ n. week_of_day n.day (day_millis n.fraction)))
