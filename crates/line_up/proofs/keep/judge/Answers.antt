-- `line_up::keep::judge` meets its contract. Assumes nothing.
use Rattle.line_up.proofs.keep.Judging.{judging_starts, judging_next}
use Rattle.line_up.proofs.keep.judge.Goals as goal

pub loop-i-init : goal.loop-i-init
loop-i-init c = judging_starts _ _ _ _ _ c.requires

pub loop-i-preserved : goal.loop-i-preserved
loop-i-preserved c =
    judging_next _ _ _ _ _ c.requires _ _ _ c.loop-i.invariant c.loop-i-test.true _ _ _ c.cell_at-r.ensures c.judged.ensures
    c.wanted_before-wanted.ensures
