-- `ticks::places::place_all` meets its contract. Assumes nothing.
use native.Mathlib.Omega.{arith}
use mathlib.Core.Path.{◌∙◌}
use borrow.Author.Tests.{eq-eqb, ne_eqb}
use Rattle.ticks.specs.Ticks.{passes_of}
use Rattle.ticks.specs.places.Places.{placed_reading}
use Rattle.ticks.proofs.places.Puts.{putting_starts, putting_goes}
use Rattle.ticks.proofs.places.place_all.Goals as goal
use Rattle.ticks.proofs.places.place_all.Goals.{then-number-ne0, else-number-ne0}

pub loop-i-init : goal.loop-i-init
loop-i-init c = putting_starts _ _ _ _ _

pub loop-i-preserved : goal.loop-i-preserved
loop-i-preserved c =
    putting_goes _ _ _ _ _ _ _ _ _ _ c.loop-i.invariant (passes_of c.args.passes.now.ticks.now c.args.passes.now.millis.now) c.number_at-m.result
    (λ x. placed_reading (passes_of c.args.passes.now.ticks.now c.args.passes.now.millis.now) (c.loop-i.invariant.number-yet x) (c.number_at-m.ensures x))
    _ c.place_reading-done.result.number c.place_reading-done.result.near c.if-number-ne0.without c.loop-i-test.true c.place_reading-done.ensures
    (elim c.if-number-ne0.branch [
      | then-number-ne0 w ↦ w.without-is ∙ rw (ne_eqb _ 0 w.if-number-ne0.true)
      | else-number-ne0 w ↦ w.without-is ∙ rw (eq-eqb _ 0 w.if-number-ne0.false) (omega arith)
    ])
