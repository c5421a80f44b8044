-- The places that are written and those that are left are the merge; each turn of the loop writes one. Assumes nothing.
use Rattle.std.proofs.Common.{◌-◌, length}
use Rattle.line_up.specs.LineUp.{sooner_at}
use Rattle.line_up.proofs.Merging.{Merging}
use Rattle.line_up.proofs.merge.Given as goal

abbrev pub invariant-loop-p : goal.invariant-loop-p
invariant-loop-p l = Merging (sooner_at l.jd1s l.jd2s) l.numbers l.end1 l.end2 l.initial.out l.out l.x l.y l.z l.p l.k

abbrev pub decreases-loop-p : goal.decreases-loop-p
decreases-loop-p l = length l.numbers - l.k
