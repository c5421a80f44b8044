-- `utc_scales::utc_tai::utc_to_tai_by_rows` meets its contract. Assumes nothing.
use mathlib.Core.Path.{sym, ap, ◌∙◌}
use Rattle.refusals.specs.Outcome.{answer, onward, seen}
use Rattle.refusals.proofs.Handed.{seen_handed_on}
use Rattle.leap_table.specs.rows.Announced.{rows_of}
use Rattle.utc_scales.specs.declared.days.Parts.{Parts}
use Rattle.utc_scales.specs.Known.{RightKnown, DayOfDate}
use Rattle.utc_scales.specs.days.LargerPart.{placed}
use Rattle.utc_scales.specs.UtcTai.{tai_fraction, utc_to_tai}
use Rattle.utc_scales.specs.days.DateRule.{rule_of_date}
use Rattle.utc_scales.specs.ByRule.{utc_to_tai_by_rule}
use Rattle.utc_scales.proofs.days.Steps.{changes}
use Rattle.utc_scales.proofs.days.Rules.{passed, not_passed}
use Rattle.utc_scales.proofs.utc_tai.utc_to_tai_by_rows.Goals as goal

pub tai_fraction-requires : goal.tai_fraction-requires
unfolding RightKnown
tai_fraction-requires c = tt

pub returns-in_err-k : goal.returns-in_err-k
unfolding seen onward utc_to_tai utc_to_tai_by_rule
returns-in_err-k c =
    let f = tai_fraction (rows_of c.args.table.now) in
    seen_handed_on _ _ _ c.from_residual.ensures.1 ∙ not_passed _ _ _ (sym (changes f _ _ _ c.kept_parts-p.ensures c.in_err-k.ensures.0))

pub returns : goal.returns
unfolding seen onward DayOfDate placed utc_to_tai utc_to_tai_by_rule
returns c =
    let rows = rows_of c.args.table.now in
    let h = c.kept_parts-p.ensures in
    passed _ _ _ _
    (sym (changes (tai_fraction rows) _ _ _ h c.in_ok-k.ensures.0) ∙ ap answer (sym c.put_beside.ensures))
    (ap (λ (z : Parts). rule_of_date rows z.larger z.smaller) (sym h) ∙ c.in_ok-k.ensures.1.same.by_rule)
