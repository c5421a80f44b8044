-- The parts of the lines before i are in their places. Assumes nothing.
use Rattle.std.proofs.Common.{◌≡◌, ◌*◌, length}
use Rattle.line_listing.specs.lines.Asked.{Gathered}
use Rattle.line_listing.proofs.lines.gather.Given as goal

abbrev pub invariant-loop-i : goal.invariant-loop-i
invariant-loop-i l = Gathered l.jds l.order l.line l.i l.out × (length l.out ≡ 8 * l.count)
