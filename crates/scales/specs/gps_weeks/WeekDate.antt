-- The GPS date of a week and its milliseconds. Written from IS-GPS-200 (weeks of 604,800 s are counted from 1980-01-06 0h GPS) and document 02, item 7: "The
-- date's jd1 is its day's midnight, jd2 the day's milliseconds / 86,400,000, rounded once". Assumes nothing.
use Rattle.std.specs.Prelude.{ℕ, ◌+◌, ◌-◌, ◌*◌, ◌/◌, ◌%◌, Bool, false, cond, ◌&&◌, nat_le, nat_lt, Float}
use Rattle.std.specs.Float.{binary64}
use Rattle.std.specs.Float.Ieee.{round}
use Rattle.refusals.specs.Outcome.{Outcome, answer, refusal}
use Rattle.julian.specs.declared.JulianDate.{JulianDate}
use Rattle.julian.specs.JulianDate.{julian}

-- the day number of 1980-01-06 (`first-day-is-1980-01-06`)
abbrev pub first_day : ℕ
first_day = 2444245

-- the Julian date of the midnight that begins day n: n - 1 / 2, which is a float
unfoldable pub week_midnight : ℕ → Float
week_midnight n = round binary64 false (2 * n - 1) 2

-- ms milliseconds in days, rounded once
unfoldable pub part_of_day : ℕ → Float
part_of_day ms = round binary64 false ms 86400000

-- whole weeks up to 100,000, milliseconds below 604,800,000
abbrev pub in_weeks : ℕ → ℕ → Bool
in_weeks week ms = nat_le week 100000 && nat_lt ms 604800000

-- the day of a week's millisecond
abbrev pub day_in : ℕ → ℕ → ℕ
day_in week ms = first_day + 7 * week + ms / 86400000

unfoldable pub week_date : ℕ → ℕ → Outcome JulianDate
week_date week ms = cond (in_weeks week ms) (answer (julian (week_midnight (day_in week ms)) (part_of_day (ms % 86400000)))) (refusal 18)
