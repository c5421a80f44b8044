-- `head::count_of` meets its contract. Assumes nothing.
use native.Mathlib.Omega.{arith}
use Rattle.std.proofs.Common.{◌≡◌, ap, ◌∙◌}
use Rattle.line_listing.specs.head.Counts.{kinds_in}
use Rattle.line_listing.proofs.head.Counting.{counted_none, counted-one, counted-other}
use Rattle.line_listing.proofs.head.count_of.Goals.{then-kind_at-kind, else-kind_at-kind}
use Rattle.line_listing.proofs.head.count_of.Goals as goal

pub loop-i-init : goal.loop-i-init
loop-i-init c = (counted_none _ _ _ _ _, omega arith)

pub loop-i-preserved : goal.loop-i-preserved
loop-i-preserved c =
    let l = c.loop-i in
    elim c.if-kind_at-kind.branch [
      | then-kind_at-kind w ↦ (
        w.count-is ∙ counted-one _ _ _ _ _ _ _ _ l.invariant.0 c.kind_at.ensures w.if-kind_at-kind.true,
        omega (arith, l.invariant.1, w.count-is),
      )
      | else-kind_at-kind w ↦ (
        w.count-is ∙ counted-other _ _ _ _ _ _ _ _ l.invariant.0 c.kind_at.ensures w.if-kind_at-kind.false,
        omega (arith, l.invariant.1, w.count-is),
      )
    ]

pub returns : goal.returns
returns c =
    let l = c.loop-i in
    let e : l.i ≡ c.args.n = omega (arith, c.loop-i-test.false) in
    (l.invariant.0 ∙ ap (kinds_in _ _ _ _ _) e, omega (arith, l.invariant.1, e))
