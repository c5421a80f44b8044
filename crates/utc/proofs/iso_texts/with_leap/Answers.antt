-- `utc::iso_texts::with_leap` meets its contract: the refusal of the day's leap, or the day with it and its rule. Assumes nothing.
use Rattle.std.proofs.Common.{sym, ap, ◌∙◌, SFits, w32, rules}
use Rattle.refusals.specs.Outcome.{answer, outcome}
use Rattle.refusals.proofs.Onward.{went, stopped}
use Rattle.refusals.proofs.Handed.{answered, handed, handed_on}
use Rattle.leap_table.specs.declared.offsets.Rule.{Rule}
use Rattle.leap_table.specs.rows.Announced.{rows_of}
use Rattle.leap_table.specs.offsets.Rule.{leap_by_rule}
use Rattle.leap_table.proofs.offsets.Rules.{apart, refused-apart}
use Rattle.julian.proofs.Dates.{read-fields}
use Rattle.utc.specs.iso_texts.ByRule.{rule_on}
use Rattle.utc.specs.iso_texts.TextDay.{day_with_leap}
use Rattle.utc.proofs.iso_texts.with_leap.Goals as goal

pub returns-in_err-leap : goal.returns-in_err-leap
unfolding leap_by_rule day_with_leap
returns-in_err-leap c =
    let f : SFits w32 c.args.date.year = search rules in
    handed_on _ _ c.from_residual.ensures.1
    ∙ sym (stopped _ (refused-apart _ _ _
    (sym (c.leap_at_end_of_day_by_rows.ensures
    ∙ read-fields (leap_by_rule (rows_of c.args.table.now)) c.args.date f c.requires.0 c.requires.1)
    ∙ handed c.in_err-leap.was)))

pub returns : goal.returns
unfolding outcome leap_by_rule rule_on day_with_leap
returns c =
    let f : SFits w32 c.args.date.year = search rules in
    let q = apart _ _ _ _ (sym (c.leap_at_end_of_day_by_rows.ensures
    ∙ read-fields (leap_by_rule (rows_of c.args.table.now)) c.args.date f c.requires.0 c.requires.1)
    ∙ answered c.in_ok-leap.was) in
    sym (went _ q.0 ∙ ap (λ (r : Rule). answer
    (record { date = c.args.date; fraction = c.args.fraction; leap = c.in_ok-leap.leap; rule = r }))
    q.1)
