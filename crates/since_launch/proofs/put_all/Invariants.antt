-- The stamps before place i are put. Assumes nothing.
use Rattle.since_launch.specs.Run.{stamp_millis}
use Rattle.since_launch.proofs.Puts.{Putting}
use Rattle.since_launch.proofs.put_all.Given as goal

abbrev pub invariant-loop-i : goal.invariant-loop-i
invariant-loop-i l = Putting (stamp_millis l.launch l.jd1s l.jd2s) l.n l.fn.out l.fn.numbers l.out l.numbers l.refused l.i
