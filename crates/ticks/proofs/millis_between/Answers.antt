-- `ticks::millis_between` meets its contract. Assumes nothing.
use mathlib.Core.Path.{◌∙◌}
use Rattle.ticks.specs.Line.{line_at}
use Rattle.ticks.proofs.Lines.{line-is}
use Rattle.ticks.proofs.millis_between.Goals as goal

pub returns : goal.returns
returns c =
    line-is c.number_at-t0.result c.number_at-t1.result c.number_at-m0.result c.number_at-m1.result c.args.t c.along.result c.along.ensures
    ∙ (λ i. line_at (c.number_at-t0.ensures i) (c.number_at-m0.ensures i) (c.number_at-t1.ensures i) (c.number_at-m1.ensures i) c.args.t)
