-- The passes left hold the one that is sought. Assumes nothing.
use Rattle.ticks.specs.judging.Refusing.{number_at}
use Rattle.ticks.proofs.Search.{Seeking}
use Rattle.ticks.proofs.last_not_after.Given as goal

abbrev pub invariant-loop-left : goal.invariant-loop-left
invariant-loop-left l = Seeking (number_at l.passes) l.low l.high l.t l.from l.left

abbrev pub decreases-loop-left : goal.decreases-loop-left
decreases-loop-left l = l.left
