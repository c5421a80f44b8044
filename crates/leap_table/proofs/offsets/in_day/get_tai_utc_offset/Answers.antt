-- `leap_table::offsets::in_day::get_tai_utc_offset` meets its contract: the table is tested, and its rows are read. Assumes nothing.
use Rattle.std.proofs.Common.{◌∙◌, to_z-of_z}
use Rattle.refusals.proofs.Handed.{handed_on}
use Rattle.leap_table.specs.rows.Announced.{rows_of}
use Rattle.leap_table.specs.offsets.Rule.{offset_by_rule}
use Rattle.leap_table.proofs.rows.TablesTaken.{call_refused, call_taken}
use Rattle.leap_table.proofs.offsets.in_day.get_tai_utc_offset.Goals as goal

pub returns-in_err-judge_table : goal.returns-in_err-judge_table
returns-in_err-judge_table c =
    handed_on _ _ c.from_residual.ensures.1 ∙ call_refused c.args.table c.judge_table.result c.judge_table.ensures _ _ c.in_err-judge_table.was

pub returns : goal.returns
returns c =
    c.get_tai_utc_offset_by_rows.ensures
    ∙ (λ i. offset_by_rule (rows_of c.args.table) (to_z-of_z c.ranges.year i) (to_z-of_z c.ranges.month i) (to_z-of_z c.ranges.day i) c.args.fraction)
    ∙ call_taken c.args.table c.judge_table.result c.judge_table.ensures _ _ c.in_ok-judge_table.was
