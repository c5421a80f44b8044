-- `capi::summary_calls::ct_line_summary` meets its contract: the table and the records are tested, and the summary is delivered. Assumes nothing.
use native.Mathlib.Omega.{arith}
use mathlib.Core.Path.{◌∙◌}
use Rattle.leap_table.specs.rows.Announced.{rows_of}
use Rattle.capi.proofs.Tables.{text-table-refused, text-with-rows, is-taken}
use Rattle.capi.proofs.Texts.{text-count, text-put, text_refused}
use Rattle.capi.proofs.Summaries as X
use Rattle.capi.proofs.summary_calls.ct_line_summary.Goals as goal

pub returns-in-Err : goal.returns-in-Err
returns-in-Err c =
    text-table-refused _ c.announced_rows_at-rows.result c.judge_table.result c.judge_table.ensures c.announced_rows_at-rows.ensures _
    c.refused.type_inv _ c.in-Err.is c.refused.ensures

pub returns-in-Err-judge_runs : goal.returns-in-Err-judge_runs
returns-in-Err-judge_runs c =
    text-with-rows _ c.announced_rows_at-rows.result c.judge_table.result c.judge_table.ensures c.announced_rows_at-rows.ensures _ c.in_default.not-Err
    (X.summary_refused c.args.known c.args.runs.now c.args.jd1.now c.args.jd2.now c.args.numbers.now (rows_of c.announced_rows_at-rows.result)
    c.judge_runs.result c.judge_runs.ensures
    c.refused-in-Err-judge_runs.type_inv _ c.in-Err-judge_runs.is c.refused-in-Err-judge_runs.ensures)

pub overflow_cast-result : goal.overflow_cast-result
overflow_cast-result c = record { sfits = omega (arith, text-count c.put_summary.ensures _ c.in-Ok.is, c.well_formed) }

pub returns-in-Ok : goal.returns-in-Ok
returns-in-Ok c =
    text-with-rows _ c.announced_rows_at-rows.result c.judge_table.result c.judge_table.ensures c.announced_rows_at-rows.ensures _ c.in_default.not-Err
    (X.delivered_as (X.taken-on c.announced_rows_at-rows.result (is-taken _ c.announced_rows_at-rows.result c.judge_table.result c.judge_table.ensures
    c.announced_rows_at-rows.ensures c.in_default.not-Err) _
    ∙ X.summary_taken c.args.known c.args.runs.now c.args.jd1.now c.args.jd2.now c.args.numbers.now (rows_of c.announced_rows_at-rows.result)
    c.judge_runs.result c.judge_runs.ensures
    c.in_default-judge_runs.not-Err _ _ _ _ _ c.u64_at.ensures c.u64_at-2.ensures c.run_at.ensures c.run_at-2.ensures c.run_at-3.ensures)
    (text-put c.put_summary.ensures _ c.in-Ok.is (omega (arith, text-count c.put_summary.ensures _ c.in-Ok.is, c.well_formed))))

pub returns-in-Err-put_summary : goal.returns-in-Err-put_summary
returns-in-Err-put_summary c =
    text-with-rows _ c.announced_rows_at-rows.result c.judge_table.result c.judge_table.ensures c.announced_rows_at-rows.ensures _ c.in_default.not-Err
    (X.delivered_as (X.taken-on c.announced_rows_at-rows.result (is-taken _ c.announced_rows_at-rows.result c.judge_table.result c.judge_table.ensures
    c.announced_rows_at-rows.ensures c.in_default.not-Err) _
    ∙ X.summary_taken c.args.known c.args.runs.now c.args.jd1.now c.args.jd2.now c.args.numbers.now (rows_of c.announced_rows_at-rows.result)
    c.judge_runs.result c.judge_runs.ensures
    c.in_default-judge_runs.not-Err _ _ _ _ _ c.u64_at.ensures c.u64_at-2.ensures c.run_at.ensures c.run_at-2.ensures c.run_at-3.ensures)
    (text_refused c.put_summary.ensures _ c.refused-in-Err-put_summary.type_inv c.in-Err-put_summary.is c.refused-in-Err-put_summary.ensures))
