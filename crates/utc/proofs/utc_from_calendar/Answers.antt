-- `utc::utc_from_calendar` meets its contract: the table is tested, and its rows are read. Assumes nothing.
use Rattle.std.proofs.Common.{◌∙◌, to_z-of_z}
use Rattle.leap_table.specs.rows.Announced.{rows_of}
use Rattle.leap_table.proofs.rows.TablesTaken.{call_refused, call_taken}
use Rattle.refusals.proofs.Handed.{seen_handed_on}
use Rattle.utc.specs.FromCalendar.{utc_from_calendar}
use Rattle.utc.proofs.utc_from_calendar.Goals as goal

pub returns-in_err-judge_table : goal.returns-in_err-judge_table
returns-in_err-judge_table c =
    seen_handed_on _ _ _ c.from_residual.ensures.1 ∙ call_refused c.args.table c.judge_table.result c.judge_table.ensures _ _ c.in_err-judge_table.was

pub returns : goal.returns
returns c =
    c.utc_from_calendar_by_rows.ensures
    ∙ (λ i. utc_from_calendar (rows_of c.args.table) (to_z-of_z c.ranges.year i) c.args.month c.args.day c.args.hour c.args.minute c.args.second)
    ∙ call_taken c.args.table c.judge_table.result c.judge_table.ensures _ _ c.in_ok-judge_table.was
