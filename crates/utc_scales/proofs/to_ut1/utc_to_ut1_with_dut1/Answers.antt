-- `utc_scales::to_ut1::utc_to_ut1_with_dut1` meets its contract: the table is tested, and its rows are read. Assumes nothing.
use mathlib.Core.Path.{ap, ◌∙◌}
use mathlib.Core.List.{List}
use Rattle.refusals.proofs.Handed.{seen_handed_on}
use Rattle.leap_table.specs.rows.Table.{Row}
use Rattle.leap_table.proofs.rows.TablesTaken.{call_refused, call_taken}
use Rattle.utc_scales.specs.to_ut1.ByRule.{utc_to_ut1_by_rule}
use Rattle.utc_scales.proofs.to_ut1.utc_to_ut1_with_dut1.Goals as goal

pub returns-in_err-judge_table : goal.returns-in_err-judge_table
returns-in_err-judge_table c =
    seen_handed_on _ _ _ c.from_residual.ensures.1 ∙ call_refused c.args.table c.judge_table.result c.judge_table.ensures _ _ c.in_err-judge_table.was

pub returns : goal.returns
returns c =
    c.utc_to_ut1_with_dut1_by_rows.ensures
    ∙ call_taken c.args.table c.judge_table.result c.judge_table.ensures _ _ c.in_ok-judge_table.was
