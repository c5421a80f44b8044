-- Of the stamps before i those are seen. Assumes nothing.
use Rattle.line_listing.specs.summary.Asked.{SeenAll}
use Rattle.line_listing.proofs.summary.seen_in.Given as goal

abbrev pub invariant-loop-i : goal.invariant-loop-i
invariant-loop-i l = SeenAll l.wanted l.numbers l.from l.i l.s
