-- `capi::offset_calls::ct_check_table` meets its contract. Assumes nothing.
use Rattle.capi.proofs.Tables.{count-refused, count_fits, count-fits-code, count-answered}
use Rattle.capi.proofs.offset_calls.ct_check_table.Goals as goal

pub returns-in-Err : goal.returns-in-Err
returns-in-Err c =
    count-refused _ c.announced_rows_at-rows.result c.judge_table.result c.judge_table.ensures c.announced_rows_at-rows.ensures
    c.refused.type_inv
    _ c.in-Err.is c.refused.ensures

pub overflow_add-result : goal.overflow_add-result
overflow_add-result c =
    count_fits _ c.announced_rows_at-rows.result c.judge_table.result c.judge_table.ensures c.announced_rows_at-rows.ensures
    c.in_default.not-Err

pub overflow_cast-result : goal.overflow_cast-result
overflow_cast-result c =
    count-fits-code _ c.announced_rows_at-rows.result c.judge_table.result c.judge_table.ensures c.announced_rows_at-rows.ensures
    c.in_default.not-Err

pub returns : goal.returns
returns c =
    count-answered _ c.announced_rows_at-rows.result c.judge_table.result c.judge_table.ensures c.announced_rows_at-rows.ensures
    c.in_default.not-Err
