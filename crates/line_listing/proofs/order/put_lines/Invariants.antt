-- The lines of the first j ordered places are written. Assumes nothing.
use Rattle.std.proofs.Common.{take}
use Rattle.line_up.specs.keep.Cells.{cells}
use Rattle.line_listing.proofs.order.Loops.{Listing}
use Rattle.line_listing.proofs.order.put_lines.Given as goal

abbrev pub invariant-loop-j : goal.invariant-loop-j
invariant-loop-j l = Listing l.numbers l.end1 l.end2 (take l.many (cells l.places)) l.initial.out l.initial.k l.out l.k l.j
