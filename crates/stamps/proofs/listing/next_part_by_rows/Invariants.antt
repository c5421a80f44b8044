-- `count` lines stand at the start of the scratch, and the part holds as many as these and those that the rest of the scratch will take. Assumes nothing.
use Rattle.std.specs.Prelude.{◌≡◌, ◌≤◌, ◌+◌, ◌-◌, length}
use Rattle.leap_table.specs.rows.Announced.{rows_of}
use Rattle.numerals.specs.digits.Placed.{Placed}
use Rattle.stamps.specs.Parts.{lines_from, held_lines}
use Rattle.stamps.proofs.listing.next_part_by_rows.Given as goal

abbrev pub invariant-loop-count : goal.invariant-loop-count
invariant-loop-count l =
    Placed l.fn.scratch 0 (lines_from l.reporting (rows_of l.table) l.block l.line l.count) l.at l.scratch
    × (l.at ≤ length l.fn.scratch)
    × (held_lines l.reporting (rows_of l.table) l.block l.line (length l.fn.scratch) l.left
    ≡ l.count + held_lines l.reporting (rows_of l.table) l.block (l.line + l.count) (length l.fn.scratch - l.at) (l.left - l.count))
