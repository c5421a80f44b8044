-- `utc_scales::utc_tai::refined` meets its contract. Assumes nothing.
use mathlib.Core.Path.{sym, ap, ◌∙◌}
use Rattle.refusals.specs.Outcome.{answer, onward, seen}
use Rattle.refusals.proofs.Handed.{seen_handed_on}
use Rattle.leap_table.specs.rows.Announced.{rows_of}
use Rattle.refusals.proofs.Onward.{went, stopped}
use Rattle.utc_scales.specs.Known.{RightPart, DayOfDate}
use Rattle.utc_scales.specs.days.LargerPart.{placed}
use Rattle.utc_scales.specs.UtcTai.{tai_fraction, utc_to_tai, moved, refined}
use Rattle.utc_scales.proofs.Refused.{where_err}
use Rattle.utc_scales.proofs.days.Steps.{changes}
use Rattle.utc_scales.proofs.utc_tai.refined.Goals as goal

pub returns-in_err-k : goal.returns-in_err-k
unfolding seen onward RightPart utc_to_tai refined
returns-in_err-k c =
    let rows = rows_of c.args.table.now in
    let u = sym (changes (tai_fraction rows) _ _ _ c.kept_parts-p.ensures c.in_err-k.ensures.0) in (
      seen_handed_on _ _ _ c.from_residual.ensures.1 ∙ sym (stopped _ u),
      where_err (RightPart rows) _ _ c.from_residual.ensures.1 tt,
    )

pub returns : goal.returns
unfolding seen onward RightPart DayOfDate placed utc_to_tai moved refined
returns c =
    let rows = rows_of c.args.table.now in
    let u = sym (changes (tai_fraction rows) _ _ _ c.kept_parts-p.ensures c.in_ok-k.ensures.0) in
    (sym (went _ (u ∙ ap answer (sym c.put_beside-tai.ensures))), c.in_ok-k.ensures.1.right)
