-- The month that begins so many days after 1900-01-01, where NTP seconds are counted from: the lengths of the months, one after the other. Written from ISO
-- 8601's months (crates/calendar) and the head of the IERS file ("the number of seconds since 1900.0"). Assumes nothing.
use Rattle.std.specs.Prelude.{ℕ, zero, suc, ◌+◌, ◌-◌, ◌/◌, ◌%◌, cond, eqb, ltb, pos}
use Rattle.calendar.specs.Calendar.{month_length}

-- January of 1900, and how many months there are from it to December of 9999
abbrev pub first_month : ℕ
first_month = 22800

abbrev pub all_months : ℕ
all_months = 97200

-- the days of a month by its number
unfoldable pub month_days : ℕ → ℕ
month_days m = month_length (pos (m / 12)) (m % 12 + 1)

-- the month whose first day is `day` days after that of month m, among `most` months; 0 where there is none
unfoldable pub month_after : ℕ → ℕ → ℕ → ℕ
month_after zero m day = 0
month_after (suc most) m day = cond (eqb day 0) m (cond (ltb day (month_days m)) 0 (month_after most (m + 1) (day - month_days m)))

unfoldable pub month_from : ℕ → ℕ
month_from day = month_after all_months first_month day

-- the days of the k months from month m on; no contract cites it
unfoldable pub days_from : ℕ → ℕ → ℕ
days_from m zero = 0
days_from m (suc k) = month_days m + days_from (m + 1) k
