-- The numbers before place i are tested. Assumes nothing.
use Rattle.line_up.specs.LineUp.{unordered_at}
use Rattle.line_up.proofs.Testing.{Testing}
use Rattle.line_up.proofs.refuse_unordered.Given as goal

abbrev pub invariant-loop-i : goal.invariant-loop-i
invariant-loop-i l = Testing (unordered_at l.jd1s l.jd2s) l.initial.numbers l.numbers l.i
