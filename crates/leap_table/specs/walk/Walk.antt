-- The offsets of dates at 0h in one walk through the table, and the number of rows compared. Written from document 02, item 2: "Turned away: 14 for a broken
-- triple, then 11 for fewer offset places than dates; then, date by date, a bad one by its own number, then 17". Assumes nothing.
use Rattle.std.specs.Prelude.{ℕ, Bool, cond, List, map, length, nat_le, unsigned_abs, Float}
use Rattle.std.specs.Float.{binary64}
use Rattle.std.specs.Float.Ieee.{of_int}
use Rattle.refusals.specs.Outcome.{Outcome, answer, refusal, onward}
use Rattle.floats.specs.Whole.{nought}
use Rattle.calendar.specs.DayCount.{mjd_number}
use Rattle.leap_table.specs.rows.Table.{Row, starts, month_number}
use Rattle.leap_table.specs.offsets.Offset.{offset_at}
use Rattle.leap_table.specs.declared.judging.Triple.{Triple}
use Rattle.leap_table.specs.walk.Rows.{compared}
use Rattle.leap_table.specs.judging.Judging.{judged_all}

-- the number of a date's month
abbrev pub month_in : Triple → ℕ
month_in t = month_number t.year (unsigned_abs t.month)

-- the offset of a date at 0h, by the row of its month: that of document 01's look-up (`offset-of-look-up`)
unfoldable pub triple_offset : List Row → Triple → Float
triple_offset rows t = offset_at rows (month_in t) (of_int binary64 (mjd_number t.year t.month t.day)) nought

-- the rows compared, and the offsets in the order of the dates
pub record Walked : Type 0 where
  pub rows_compared : ℕ
  pub offsets : List Float

abbrev pub walked : List Row → List Triple → Walked
walked rows dates = record { rows_compared = compared (starts rows) (map month_in dates); offsets = map (triple_offset rows) dates }

-- `whole`: there is no broken triple
unfoldable pub walk_of : List Row → Bool → List Triple → ℕ → Outcome Walked
walk_of rows whole dates places =
    cond whole
    (cond (nat_le (length dates) places)
    (onward (judged_all dates) (λ _. answer (walked rows dates)))
    (refusal 11))
    (refusal 14)
