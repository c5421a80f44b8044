-- What was taken, and what is taken of the rest, is the whole. Assumes nothing.
use Rattle.std.proofs.Common.{◌-◌, length}
use Rattle.leap_table.specs.rows.Announced.{rows_of}
use Rattle.line_listing.proofs.taken.Steps.{TakenTo}
use Rattle.line_listing.proofs.taken.take_blocks.Given as goal

abbrev pub invariant-loop-at : goal.invariant-loop-at
invariant-loop-at l =
    TakenTo (rows_of l.table) l.scale l.run l.fn.jd1s l.fn.jd2s l.fn.numbers l.at l.place l.refused l.jd1s l.jd2s l.numbers

abbrev pub decreases-loop-at : goal.decreases-loop-at
decreases-loop-at l = length l.run - l.at
