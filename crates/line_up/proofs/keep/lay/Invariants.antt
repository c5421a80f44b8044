-- The stamps before place i are laid. Assumes nothing.
use Rattle.line_up.specs.keep.Stamps.{sooner_at}
use Rattle.line_up.specs.keep.Cells.{cells}
use Rattle.line_up.proofs.keep.Dates.{FiniteAt}
use Rattle.line_up.proofs.keep.Laying.{Laying}
use Rattle.line_up.proofs.keep.lay.Given as goal

abbrev pub invariant-loop-i : goal.invariant-loop-i
invariant-loop-i l =
    Laying (FiniteAt l.jd1s l.jd2s) (sooner_at l.jd1s l.jd2s) l.numbers l.from l.to (cells l.initial.tails) (cells l.initial.ranks)
    (cells l.tails) (cells l.ranks) l.many l.i
