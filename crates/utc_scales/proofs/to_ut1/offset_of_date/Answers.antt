-- `utc_scales::to_ut1::offset_of_date` meets its contract. Assumes nothing.
use mathlib.Core.Path.{sym, ap, ◌∙◌}
use lib.IntN.{ℤ}
use Rattle.refusals.specs.Outcome.{outcome}
use Rattle.refusals.proofs.Handed.{handed_on}
use Rattle.floats.proofs.Laws.{yes}
use Rattle.calendar.specs.Gregorian.{gregorian_date}
use Rattle.julian.proofs.day_number.Ranges.{day-range, day-read}
use Rattle.leap_table.specs.offsets.Rule.{with_rule}
use Rattle.leap_table.specs.rows.Announced.{rows_of}
use Rattle.utc_scales.specs.days.Dates.{offset_at0h}
use Rattle.utc_scales.specs.days.DateRule.{rule_on}
use Rattle.utc_scales.proofs.days.Rules.{offset-by-rule, offset-by-rule-refused}
use Rattle.utc_scales.proofs.to_ut1.offset_of_date.Goals as goal

pub returns-in_err-d : goal.returns-in_err-d
unfolding outcome
returns-in_err-d c =
    handed_on _ _ c.from_residual.ensures.1
    ∙ offset-by-rule-refused (rows_of c.args.table.now) _ _ _ (sym c.in_err-d.ensures)

pub returns : goal.returns
unfolding outcome
returns c =
    let rows = rows_of c.args.table.now in
    let e = sym c.in_ok-d.ensures in
    let r = day-range _ _ (yes c.well_formed.0.1) (yes c.well_formed.1.0.1) _ e in
    c.offset_at_0h.ensures
    ∙ ap (λ (z : ℤ). with_rule (offset_at0h rows (gregorian_date z)) (rule_on rows (gregorian_date z))) (day-read _ r)
    ∙ offset-by-rule rows _ _ _ e
