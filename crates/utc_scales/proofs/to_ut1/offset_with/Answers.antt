-- `utc_scales::to_ut1::offset_with` meets its contract. Assumes nothing.
use mathlib.Core.Bool.{true, false}
use mathlib.Core.Path.{◌∙◌}
use Rattle.refusals.specs.Outcome.{outcome}
use Rattle.leap_table.specs.rows.Announced.{rows_of}
use Rattle.utc_scales.specs.days.DateRule.{offset_of_date_by_rule}
use Rattle.utc_scales.proofs.to_ut1.Steps.{parts-offset}
use Rattle.utc_scales.proofs.days.Rules.{passed}
use Rattle.utc_scales.proofs.to_ut1.offset_with.Goals as goal

pub returns-then-p : goal.returns-then-p
unfolding outcome offset_of_date_by_rule
returns-then-p c = passed _ _ _ _ c.requires.offset c.requires.by_rule
    ∙ parts-offset (rows_of c.args.table.now) c.args.p true c.if-p.true

pub returns-else-p : goal.returns-else-p
returns-else-p c = c.offset_of_date.ensures ∙ parts-offset (rows_of c.args.table.now) _ false c.if-p.false
