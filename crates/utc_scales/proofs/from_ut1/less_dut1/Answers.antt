-- `utc_scales::from_ut1::less_dut1` meets its contract. Assumes nothing.
use mathlib.Core.Path.{ap, ◌∙◌}
use Rattle.refusals.specs.Outcome.{answer, onward, outcome}
use Rattle.refusals.proofs.Handed.{handed_on}
use Rattle.leap_table.specs.rows.Announced.{rows_of}
use Rattle.utc_scales.specs.days.LargerPart.{placed}
use Rattle.utc_scales.specs.from_ut1.Ut1Utc.{utc_fraction}
use Rattle.utc_scales.proofs.days.Steps.{changes}
use Rattle.utc_scales.proofs.from_ut1.less_dut1.Goals as goal

pub returns-in_err-smaller : goal.returns-in_err-smaller
unfolding outcome onward
returns-in_err-smaller c =
    handed_on _ _ c.from_residual.ensures.1
    ∙ changes (utc_fraction (rows_of c.args.table.now) c.args.dut1) _ _ _ c.kept_parts-p.ensures
    c.in_err-smaller.ensures

pub returns : goal.returns
unfolding outcome onward placed
returns c =
    ap answer c.put_beside.ensures
    ∙ changes (utc_fraction (rows_of c.args.table.now) c.args.dut1) _ _ _ c.kept_parts-p.ensures
    c.in_ok-smaller.ensures
