-- `leap_table::offsets::whole_day::leap_at_end_of_day` meets its contract: the table is tested, and the answer is that of its rows, without the rule. Assumes
-- nothing.
use Rattle.std.proofs.Common.{sym, ap, ◌∙◌, to_z-of_z}
use Rattle.refusals.specs.Outcome.{onward, outcome}
use Rattle.refusals.proofs.Handed.{answered, handed, handed_on}
use Rattle.leap_table.specs.rows.Announced.{rows_of}
use Rattle.leap_table.specs.offsets.Rule.{forget, leap_by_rule}
use Rattle.leap_table.proofs.rows.TablesTaken.{call_refused, call_taken}
use Rattle.leap_table.proofs.offsets.Rules.{leap-forgets}
use Rattle.leap_table.proofs.offsets.whole_day.leap_at_end_of_day.Goals as goal

pub returns-in_err-judge_table : goal.returns-in_err-judge_table
returns-in_err-judge_table c =
    handed_on _ _ c.from_residual.ensures.1 ∙ call_refused c.args.table c.judge_table.result c.judge_table.ensures _ _ c.in_err-judge_table.was

pub returns-in_err-leap : goal.returns-in_err-leap
unfolding forget onward
returns-in_err-leap c =
    handed_on _ _ c.from_residual-in_err-leap.ensures.1
    ∙ ap forget (sym (handed c.in_err-leap.was))
    ∙ (ap forget
    (c.leap_at_end_of_day_by_rows.ensures
    ∙ (λ i. leap_by_rule (rows_of c.args.table) (to_z-of_z c.ranges.year i) (to_z-of_z c.ranges.month i) (to_z-of_z c.ranges.day i)))
    ∙ leap-forgets (rows_of c.args.table) c.args.year c.args.month c.args.day
    ∙ call_taken c.args.table c.judge_table.result c.judge_table.ensures _ _ c.in_ok-judge_table.was)

pub returns : goal.returns
unfolding outcome forget onward
returns c =
    ap forget (sym (answered c.in_ok-leap.was))
    ∙ (ap forget
    (c.leap_at_end_of_day_by_rows.ensures
    ∙ (λ i. leap_by_rule (rows_of c.args.table) (to_z-of_z c.ranges.year i) (to_z-of_z c.ranges.month i) (to_z-of_z c.ranges.day i)))
    ∙ leap-forgets (rows_of c.args.table) c.args.year c.args.month c.args.day
    ∙ call_taken c.args.table c.judge_table.result c.judge_table.ensures _ _ c.in_ok-judge_table.was)
