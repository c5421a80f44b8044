-- Each row passed has begun and is counted, and `next` is the start of the next. The measure is what is left of the rows.
use Rattle.std.proofs.Common.{◌-◌, length}
use Rattle.leap_table.specs.rows.Announced.{rows_of}
use Rattle.leap_table.proofs.walk.Forward.{Walking}
use Rattle.leap_table.proofs.walk.walk_to.Given as goal

abbrev pub invariant-loop-next : goal.invariant-loop-next
invariant-loop-next l = Walking (rows_of l.fn.table) l.month l.initial.reached l.initial.compared l.reached l.next l.compared

abbrev pub decreases-loop-next : goal.decreases-loop-next
decreases-loop-next l = length (rows_of l.fn.table) - l.reached
