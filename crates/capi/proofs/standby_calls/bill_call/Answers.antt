-- `capi::standby_calls::bill_call` meets its contract: the table is taken, so the call goes on with its rows. Assumes nothing.
use mathlib.Core.Path.{ap, ◌∙◌}
use mathlib.Core.List.{List}
use Rattle.refusals.specs.Outcome.{Outcome, onward}
use Rattle.leap_table.specs.rows.Table.{Row}
use Rattle.standby.specs.Bills.{standby_bill}
use Rattle.capi.specs.BillBytes.{bill_bytes}
use Rattle.capi.proofs.Tables.{table-refused, with_rows, is-taken}
use Rattle.capi.proofs.standby_calls.bill_call.Goals as goal

pub returns-in-Err : goal.returns-in-Err
returns-in-Err c =
    table-refused _ c.announced_rows_at-rows.result c.judge_table.result c.judge_table.ensures c.announced_rows_at-rows.ensures bill_bytes _
    c.refused.type_inv _ c.in-Err.is c.refused.ensures

pub returns : goal.returns
unfolding onward
returns c =
    let a = c.args in
    with_rows _ c.announced_rows_at-rows.result c.judge_table.result c.judge_table.ensures c.announced_rows_at-rows.ensures bill_bytes _
    c.put_bill.type_inv c.in_default.not-Err
    (c.standby_bill.ensures
    ∙ ap (λ (o : Outcome (List Row)). onward o (λ rows. standby_bill rows a.start a.end a.rate a.first_metres a.second_metres))
    (is-taken _ c.announced_rows_at-rows.result c.judge_table.result c.judge_table.ensures c.announced_rows_at-rows.ensures c.in_default.not-Err))
    c.put_bill.ensures
