-- No place before i is accepted. Assumes nothing.
use Rattle.line_up.proofs.Nexts.{Looking}
use Rattle.line_up.proofs.next_accepted.Given as goal

abbrev pub invariant-loop-i : goal.invariant-loop-i
invariant-loop-i l = Looking l.numbers l.from l.to l.i
