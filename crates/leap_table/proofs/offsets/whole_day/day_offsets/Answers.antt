-- `leap_table::offsets::whole_day::day_offsets` meets its contract: the table is tested, and the answer is that of its rows, without the rule. Assumes
-- nothing.
use Rattle.std.proofs.Common.{sym, ap, ◌∙◌, to_z-of_z}
use Rattle.refusals.specs.Outcome.{onward, outcome}
use Rattle.refusals.proofs.Handed.{answered, handed, handed_on}
use Rattle.leap_table.specs.rows.Announced.{rows_of}
use Rattle.leap_table.specs.offsets.Rule.{forget, day_by_rule}
use Rattle.leap_table.proofs.rows.TablesTaken.{call_refused, call_taken}
use Rattle.leap_table.proofs.offsets.Rules.{day-forgets}
use Rattle.leap_table.proofs.offsets.whole_day.day_offsets.Goals as goal

pub returns-in_err-judge_table : goal.returns-in_err-judge_table
returns-in_err-judge_table c =
    handed_on _ _ c.from_residual.ensures.1 ∙ call_refused c.args.table c.judge_table.result c.judge_table.ensures _ _ c.in_err-judge_table.was

pub returns-in_err-offsets : goal.returns-in_err-offsets
unfolding forget onward
returns-in_err-offsets c =
    handed_on _ _ c.from_residual-in_err-offsets.ensures.1
    ∙ ap forget (sym (handed c.in_err-offsets.was))
    ∙ (ap forget
    (c.day_offsets_by_rows.ensures
    ∙ (λ i. day_by_rule (rows_of c.args.table) (to_z-of_z c.ranges.year i) (to_z-of_z c.ranges.month i) (to_z-of_z c.ranges.day i)))
    ∙ day-forgets (rows_of c.args.table) c.args.year c.args.month c.args.day
    ∙ call_taken c.args.table c.judge_table.result c.judge_table.ensures _ _ c.in_ok-judge_table.was)

pub returns : goal.returns
unfolding outcome forget onward
returns c =
    ap forget (sym (answered c.in_ok-offsets.was))
    ∙ (ap forget
    (c.day_offsets_by_rows.ensures
    ∙ (λ i. day_by_rule (rows_of c.args.table) (to_z-of_z c.ranges.year i) (to_z-of_z c.ranges.month i) (to_z-of_z c.ranges.day i)))
    ∙ day-forgets (rows_of c.args.table) c.args.year c.args.month c.args.day
    ∙ call_taken c.args.table c.judge_table.result c.judge_table.ensures _ _ c.in_ok-judge_table.was)
