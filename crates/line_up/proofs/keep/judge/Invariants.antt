-- The stamps from place i on are judged. Assumes nothing.
use Rattle.line_up.specs.keep.Cells.{cells}
use Rattle.line_up.proofs.keep.Judging.{Judging}
use Rattle.line_up.proofs.keep.judge.Given as goal

abbrev pub invariant-loop-i : goal.invariant-loop-i
invariant-loop-i l = Judging l.initial.numbers (cells l.ranks) l.from l.to l.many l.numbers l.wanted l.i
