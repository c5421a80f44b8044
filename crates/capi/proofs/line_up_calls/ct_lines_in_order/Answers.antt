-- `capi::line_up_calls::ct_lines_in_order` meets its contract. Assumes nothing.
use native.Mathlib.Omega.{arith}
use lib.ListN.{length}
use Rattle.line_listing.specs.order.Order.{lines_in_order}
use Rattle.capi.proofs.LineUps.{line-ordered, line_refused}
use Rattle.capi.proofs.line_up_calls.ct_lines_in_order.Goals as goal

pub returns-in-Ok : goal.returns-in-Ok
returns-in-Ok c =
    let a = c.args in
    line-ordered (lines_in_order a.jd1.now a.jd2.now a.numbers.now a.first_count a.second_count a.order.now (length a.work1.now)
    (length a.work2.now)) _ _ c.lines_in_order.result c.lines_in_order.ensures _ c.in-Ok.is (omega arith)

pub returns-in-Err : goal.returns-in-Err
returns-in-Err c =
    let a = c.args in
    line_refused (lines_in_order a.jd1.now a.jd2.now a.numbers.now a.first_count a.second_count a.order.now (length a.work1.now)
    (length a.work2.now)) _ _ c.lines_in_order.result c.lines_in_order.ensures _ c.refused.type_inv c.in-Err.is c.refused.ensures
