-- `utc::run_texts::put_all` meets its contract: the stamps before place i are put. Assumes nothing.
use native.Mathlib.Omega.{arith}
use mathlib.Core.Path.{◌∙◌}
use borrow.Author.Tests.{eq-eqb, ne_eqb}
use Rattle.utc.specs.run_texts.Kept.{RightKept}
use Rattle.utc.proofs.run_texts.KeptDays.{no_end}
use Rattle.utc.proofs.run_texts.Puts.{putting_starts, few, putting_goes}
use Rattle.utc.proofs.run_texts.put_all.Goals as goal
use Rattle.utc.proofs.run_texts.put_all.Goals.{then-beside-ne0, else-beside-ne0}

pub loop-i-init : goal.loop-i-init
unfolding RightKept
loop-i-init c = (putting_starts, (λ l. absurd (no_end _ c.no_day-kept.ensures l)))

pub overflow_add-refused : goal.overflow_add-refused
overflow_add-refused c = record { fits = omega (arith, c.loop-i-test.true, few c.loop-i.invariant.0) }

pub loop-i-preserved : goal.loop-i-preserved
loop-i-preserved c = (
  putting_goes c.loop-i.invariant.0 c.put_stamp-done.ensures.0 c.if-beside-ne0.refused
      (elim c.if-beside-ne0.branch [
        | then-beside-ne0 w ↦ w.refused-is ∙ rw (ne_eqb _ 0 w.if-beside-ne0.true)
        | else-beside-ne0 w ↦ w.refused-is ∙ rw (eq-eqb _ 0 w.if-beside-ne0.false) (omega arith)
      ]),
  c.put_stamp-done.ensures.1,
)
