-- The milliseconds of the ticks passed are written, and the rest is as it was. Assumes nothing.
use Rattle.ticks.specs.Passes.{millis_at}
use Rattle.ticks.specs.judging.Refusing.{number_at}
use Rattle.ticks.specs.Ticks.{passes_of}
use Rattle.ticks.proofs.Puts.{Placing}
use Rattle.ticks.proofs.place_all.Given as goal

abbrev pub invariant-loop-i : goal.invariant-loop-i
invariant-loop-i l = Placing (λ x. millis_at (passes_of l.passes.ticks.now l.passes.millis.now) (number_at l.ticks x)) l.passes.k l.fn.out l.out l.i l.j
