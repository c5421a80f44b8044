-- The readings before place i are placed. Assumes nothing.
use Rattle.ticks.specs.places.Places.{reading_at}
use Rattle.ticks.proofs.places.Puts.{Putting}
use Rattle.ticks.proofs.places.place_all.Given as goal

abbrev pub invariant-loop-i : goal.invariant-loop-i
invariant-loop-i l =
    Putting (reading_at l.passes.ticks.now l.passes.millis.now l.millis l.fn.numbers) l.n l.passes.k l.fn.out l.fn.numbers l.out l.numbers l.without l.j l.i
