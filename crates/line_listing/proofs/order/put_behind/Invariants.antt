-- The places before i are written. Assumes nothing.
use Rattle.line_listing.proofs.order.Loops.{Putting}
use Rattle.line_listing.proofs.order.put_behind.Given as goal

abbrev pub invariant-loop-i : goal.invariant-loop-i
invariant-loop-i l = Putting l.numbers l.from l.to l.fn.out l.k l.out l.i l.at
