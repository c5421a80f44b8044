-- The stamps before place i are put. Assumes nothing.
use Rattle.runs.specs.by_formula.Asked.{offset_stamp}
use Rattle.runs.proofs.by_formula.Puts.{Putting}
use Rattle.runs.proofs.by_formula.offsets.offset_all.Given as goal

abbrev pub invariant-loop-i : goal.invariant-loop-i
invariant-loop-i l =
    Putting (offset_stamp l.earlier l.jd1s l.jd2s l.offsets) l.n l.fn.out1 l.fn.out2 l.fn.numbers l.out1 l.out2 l.numbers l.refused l.i
