-- Of the stamps before i so many are of the kind. Assumes nothing.
use Rattle.std.proofs.Common.{◌≡◌, ◌≤◌}
use Rattle.line_listing.specs.head.Counts.{kinds_in}
use Rattle.line_listing.proofs.head.count_of.Given as goal

abbrev pub invariant-loop-i : goal.invariant-loop-i
invariant-loop-i l = (l.count ≡ kinds_in l.jd1s l.jd2s l.numbers l.kind l.from l.i) × (l.count ≤ l.i)
