-- The whole milliseconds from one date to another of the same uniform scale. Written from the customer's request: "to the nearest, halves up", on document 01's
-- day and fraction, both as a whole number of 2 ^ -52 day; 9 for a part that is not finite, 18 for a result that is not 0 to 2 ^ 40 - 1, and between them 6,
-- document 01's, where a date has no day. A day of a uniform scale has 86,400,000 ms, and a unit of 2 ^ -52 day 84375 / 2 ^ 42 ms. Assumes nothing.
use Rattle.std.specs.Prelude.{ℕ, ◌+◌, ◌-◌, ◌*◌, ◌/◌, cond, ◌&&◌, leb, ltb, pos, ◌+ℤ◌}
use Rattle.refusals.specs.Outcome.{Outcome, answer, refusal, onward}
use Rattle.time_of_day.specs.TimeShown.{from_zero}
use Rattle.time_of_day.specs.HalfEven.{grid_units}
use Rattle.julian.specs.declared.JulianDate.{JulianDate}
use Rattle.julian.specs.declared.day_number.DayNumber.{DayNumber}
use Rattle.julian.specs.day_number.Answer.{day_number_and_fraction}
use Rattle.julian.specs.Finite.{finite_parts, finite_jd}
use Rattle.since_launch.specs.declared.Place.{Place}

-- ---- a date's place

-- the days since day -68570, the first that an answered date can lie on (`day-range` of julian::day_number), and the units of the fraction, cut down where it
-- lies between two: on the grid they are all of it
unfoldable pub place_of : DayNumber → Place
place_of n = record { days = from_zero (n.day +ℤ pos 68570); units = grid_units n.fraction }

-- 6 where the date has no day
unfoldable pub place_in : JulianDate → Outcome Place
place_in d = onward (day_number_and_fraction d.jd1 d.jd2) (λ n. answer (place_of n))

-- 9 where a part is not finite, before it
unfoldable pub place_at : JulianDate → Outcome Place
place_at d = onward (finite_jd d) place_in

-- in units of 2 ^ -52 day
abbrev pub units_of : Place → ℕ
units_of p = p.days * 4503599627370496 + p.units

-- ---- the milliseconds between two places

-- so many units in milliseconds, to the nearest, a half going up
unfoldable pub nearest_count : ℕ → ℕ
nearest_count units = (84375 * units + 2199023255552) / 4398046511104

-- 18 from 2 ^ 40 on
unfoldable pub in_range : ℕ → Outcome ℕ
in_range m = cond (ltb m 1099511627776) (answer m) (refusal 18)

-- from p units to q units: the floor of 84375 (q - p) / 2 ^ 42 + 1 / 2, and 18 where that is below 0
unfoldable pub count_of : ℕ → ℕ → Outcome ℕ
count_of p q = cond (leb (84375 * p) (84375 * q + 2199023255552)) (in_range ((84375 * q + 2199023255552 - 84375 * p) / 4398046511104)) (refusal 18)

-- from a place to a date
unfoldable pub since_launch : Place → JulianDate → Outcome ℕ
since_launch p d = onward (place_at d) (λ q. count_of (units_of p) (units_of q))

-- from one date to another: 9 for either, then 6 for either, then 18
unfoldable pub millis_from_to : JulianDate → JulianDate → Outcome ℕ
millis_from_to from to =
    cond (finite_parts from && finite_parts to)
    (onward (place_in from) (λ p. onward (place_in to) (λ q. count_of (units_of p) (units_of q))))
    (refusal 9)
