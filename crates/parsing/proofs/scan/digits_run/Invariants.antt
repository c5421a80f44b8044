-- The digits before place i are read. Assumes nothing.
use Prim.Native.Nat.{◌-◌}
use Rattle.parsing.proofs.scan.Runs.{Small, RunsOn}
use Rattle.parsing.proofs.scan.digits_run.Given as goal

abbrev pub invariant-loop-i : goal.invariant-loop-i
invariant-loop-i l = Small l.whole (l.i - l.at) × RunsOn l.second l.at l.text l.whole l.i
