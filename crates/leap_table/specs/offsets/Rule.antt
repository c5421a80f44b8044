-- The rule of an offset: the row of the table that it was read from, and whether that row drifts or holds whole seconds. Written from document 02, item 5: no
-- row, a row that drifts or a row of whole seconds, with the row's number counted from 0. Assumes nothing.
use Rattle.std.specs.Prelude.{ℕ, zero, suc, cond, List, ℤ, pos, ◌==◌, slice_index_or, unsigned_abs, Float}
use Rattle.refusals.specs.Outcome.{Outcome, answer, onward}
use Rattle.calendar.specs.declared.CalendarDate.{CalendarDate}
use Rattle.leap_table.specs.declared.offsets.DayOffsets.{DayOffsets}
use Rattle.leap_table.specs.declared.offsets.Rule.{Rule}
use Rattle.leap_table.specs.declared.offsets.Rule.TheVariants.{Absent, Drifting, Whole}
use Rattle.leap_table.specs.rows.Table.{Row, month_number, starts, reached, none}
use Rattle.leap_table.specs.offsets.Offset.{tai_utc_offset}
use Rattle.leap_table.specs.offsets.Leap.{day_offsets, leap_at_end_of_day}

-- by the number of rows reached; a row whose rate is 0 does not drift
unfoldable pub rule_by : List Row → ℕ → Rule
rule_by rows zero = Absent
rule_by rows (suc i) = cond ((slice_index_or rows i none).rate == 0) (Whole i) (Drifting i)

-- in month n
unfoldable pub rule_of : List Row → ℕ → Rule
rule_of rows n = rule_by rows (reached (starts rows) n)

-- on a date of year y and month m
unfoldable pub rule_at : List Row → ℤ → ℤ → Rule
rule_at rows y m = rule_of rows (month_number y (unsigned_abs m))

-- on a calendar date
unfoldable pub rule_on : List Row → CalendarDate → Rule
rule_on rows t = rule_at rows t.year (pos t.month)

-- an answer with its rule; a refusal has none
unfoldable pub with_rule : {A : Type 0} → Outcome A → Rule → Outcome (A × Rule)
with_rule o r = onward o (λ a. answer (a, r))

-- the answer without its rule
unfoldable pub forget : {A : Type 0} → Outcome (A × Rule) → Outcome A
forget o = onward o (λ p. answer p.0)

-- the offset at a fraction of a day
unfoldable pub offset_by_rule : List Row → ℤ → ℤ → ℤ → Float → Outcome (Float × Rule)
offset_by_rule rows y m d fraction = with_rule (tai_utc_offset rows y m d fraction) (rule_at rows y m)

-- the offsets of a day and its leap, for the calls that pass on the rule of the day at 0h
unfoldable pub day_by_rule : List Row → ℤ → ℤ → ℤ → Outcome (DayOffsets × Rule)
day_by_rule rows y m d = with_rule (day_offsets rows y m d) (rule_at rows y m)

unfoldable pub leap_by_rule : List Row → ℤ → ℤ → ℤ → Outcome (Float × Rule)
leap_by_rule rows y m d = with_rule (leap_at_end_of_day rows y m d) (rule_at rows y m)
