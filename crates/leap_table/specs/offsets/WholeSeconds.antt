-- TAI-UTC of a month in whole seconds, for those who count a time from 1972 on in whole numbers: from January 1972 on no row drifts, and it is the number whose
-- float `tai_utc_offset` gives (`table-seconds`). Assumes nothing.
use Rattle.std.specs.Prelude.{ℕ, cond, ◌||◌, List, ℤ, pos, int_lt, nat_lt}
use Rattle.leap_table.specs.rows.Table.{Row, month_number}
use Rattle.leap_table.specs.offsets.Offset.{seconds_in}

-- 0 in the years before 1972, whose rows drift, and for a number that is no month
unfoldable pub whole_seconds : List Row → ℤ → ℕ → ℕ
whole_seconds rows y m = cond (int_lt y (pos 1972) || (nat_lt m 1 || nat_lt 12 m)) 0 (seconds_in rows (month_number y m))
