-- The pile is between the two ends, which draw nearer. Assumes nothing.
use Rattle.std.proofs.Common.{◌-◌}
use Rattle.line_up.specs.keep.Stamps.{sooner_at}
use Rattle.line_up.specs.keep.Cells.{cells}
use Rattle.line_up.proofs.keep.Searching.{Searching}
use Rattle.line_up.proofs.keep.search.Given as goal

abbrev pub invariant-loop-low : goal.invariant-loop-low
invariant-loop-low l = Searching (sooner_at l.jd1s l.jd2s) (cells l.tails) l.many l.i l.low l.high

abbrev pub decreases-loop-low : goal.decreases-loop-low
decreases-loop-low l = l.high - l.low
