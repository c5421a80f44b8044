-- `utc_scales::utc_tai::tai_to_utc_by_rows` meets its contract. Assumes nothing.
use mathlib.Core.Path.{ap, ◌∙◌}
use Rattle.refusals.specs.Outcome.{answer, onward, outcome, seen}
use Rattle.refusals.proofs.Handed.{seen_handed_on}
use Rattle.leap_table.specs.rows.Announced.{rows_of}
use Rattle.utc_scales.specs.days.LargerPart.{placed}
use Rattle.utc_scales.specs.UtcTai.{refine_utc_fraction, tai_to_utc}
use Rattle.utc_scales.proofs.days.Steps.{changes}
use Rattle.utc_scales.proofs.utc_tai.tai_to_utc_by_rows.Goals as goal

pub returns-in_err-smaller : goal.returns-in_err-smaller
unfolding outcome onward tai_to_utc
returns-in_err-smaller c =
    let f = refine_utc_fraction (rows_of c.args.table.now) in
    seen_handed_on _ _ _ c.from_residual.ensures.1 ∙ changes f _ _ _ c.kept_parts-p.ensures c.in_err-smaller.ensures

pub returns : goal.returns
unfolding seen outcome onward placed tai_to_utc
returns c =
    let f = refine_utc_fraction (rows_of c.args.table.now) in
    ap answer c.put_beside.ensures ∙ changes f _ _ _ c.kept_parts-p.ensures c.in_ok-smaller.ensures
