-- `since_launch::put_all` meets its contract: the stamps before place i are put. Assumes nothing.
use native.Mathlib.Omega.{arith}
use mathlib.Core.Path.{◌∙◌}
use borrow.Author.Tests.{eq-eqb, ne_eqb}
use Rattle.since_launch.proofs.Puts.{putting_starts, len1, len2, few, putting_goes, putting_ends}
use Rattle.since_launch.proofs.put_all.Goals as goal
use Rattle.since_launch.proofs.put_all.Goals.{then-number-ne0, else-number-ne0}

pub loop-i-init : goal.loop-i-init
loop-i-init c = putting_starts _ c.args.n _ _

pub put_stamp-number-requires : goal.put_stamp-number-requires
put_stamp-number-requires c = (c.requires.0, omega (arith, c.loop-i-test.true, c.requires.1.places, len1 _ _ _ _ _ _ _ _ c.loop-i.invariant))

pub bounds-numbers-i : goal.bounds-numbers-i
bounds-numbers-i c = omega (arith, c.loop-i-test.true, c.requires.1.bytes, len2 _ _ _ _ _ _ _ _ c.loop-i.invariant)

pub overflow_add-refused : goal.overflow_add-refused
overflow_add-refused c = record { fits = omega (arith, c.loop-i-test.true, few _ _ _ _ _ _ _ _ c.loop-i.invariant, c.requires.1.stamps) }

pub loop-i-preserved : goal.loop-i-preserved
loop-i-preserved c =
    putting_goes _ _ _ _ _ _ _ _ c.loop-i.invariant _ _ c.if-number-ne0.refused c.loop-i-test.true c.put_stamp-number.ensures
    (elim c.if-number-ne0.branch [
      | then-number-ne0 w ↦ w.refused-is ∙ rw (ne_eqb _ 0 w.if-number-ne0.true)
      | else-number-ne0 w ↦ w.refused-is ∙ rw (eq-eqb _ 0 w.if-number-ne0.false) (omega arith)
    ])

pub returns : goal.returns
returns c = putting_ends _ _ _ _ _ _ _ _ c.loop-i.invariant (omega (arith, c.loop-i-test.false))
