-- The day until which the table is known, as a Modified Julian Date. Written from the request for a summary of three recorders' runs: the expiry that the
-- table's text told; else, where rows are lent, the last day of the sixth month, the last row's own counted as the first, since the IERS announces for a half
-- year; else the expiry of the list of the IERS against which the fixed rows were checked. Assumes nothing.
use Rattle.std.specs.Prelude.{ℕ, ◌+◌, ◌-◌, ◌/◌, ◌%◌, cond, List, length, ℤ, pos, ◌==◌, slice_index_or}
use Rattle.refusals.specs.Outcome.{Outcome, answer, refusal}
use Rattle.calendar.specs.DayCount.{mjd_of}
use Rattle.time_of_day.specs.TimeShown.{from_zero}
use Rattle.leap_table.specs.rows.Table.{Row, starts, fixed_rows}
use Rattle.leap_table.specs.rows.Announced.{least}
use Rattle.leap_table.specs.offsets.Forward.{never}

-- 2026-06-28
abbrev pub fixed_known_until : ℕ
fixed_known_until = 61219

-- the last day that a stamp can have, Julian Day 1,000,000,000
abbrev pub last_day : ℕ
last_day = 997599999

-- the month in which the last row begins, numbered from January of year 0; no larger one can be lent than 2147483647
unfoldable pub last_month_of : List Row → ℕ
last_month_of rows = least (slice_index_or (starts rows) (length rows - 1) never) 2147483647

unfoldable pub day_by : Outcome ℤ → ℕ
day_by (answer d) = from_zero d
day_by (refusal k) = 0

-- the first day of a month
unfoldable pub first_day_of : ℕ → ℕ
first_day_of m = day_by (mjd_of (pos (m / 12)) (pos (m % 12 + 1)) (pos 1))

-- how many rows are lent
abbrev pub lent_rows : List Row → ℕ
lent_rows rows = length rows - fixed_rows

unfoldable pub known_by_rows : List Row → ℕ
known_by_rows rows = cond (lent_rows rows == 0) fixed_known_until (first_day_of (last_month_of rows + 6) - 1)

unfoldable pub known_until : List Row → ℕ → ℕ
known_until rows known = least (cond (known == 0) (known_by_rows rows) known) last_day
