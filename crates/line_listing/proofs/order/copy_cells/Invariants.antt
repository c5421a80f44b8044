-- The first j cells are copied. Assumes nothing.
use Rattle.line_listing.proofs.order.Loops.{Copying}
use Rattle.line_listing.proofs.order.copy_cells.Given as goal

abbrev pub invariant-loop-j : goal.invariant-loop-j
invariant-loop-j l = Copying l.from l.many l.fn.to l.to l.j
