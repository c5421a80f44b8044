-- `capi::line_listing_calls::ct_line_listing_part` meets its contract: the table and the arguments are tested, and the part is delivered. Assumes nothing.
use native.Mathlib.Omega.{arith}
use Rattle.capi.proofs.LineListings as X
use Rattle.capi.proofs.line_listing_calls.ct_line_listing_part.Goals as goal

pub returns-in-Err : goal.returns-in-Err
returns-in-Err c =
    let a = c.args in
    X.table-first a.reasons a.runs.now a.jd1.now a.jd2.now a.numbers.now a.order.now a.cursor.now a.out.now _ _ c.read_table.result c.read_table.ensures
    c.refused.type_inv _ c.in-Err.is c.refused.ensures

pub returns-in-Err-judge_asked : goal.returns-in-Err-judge_asked
returns-in-Err-judge_asked c =
    let a = c.args in
    X.asked_first a.reasons a.runs.now a.jd1.now a.jd2.now a.numbers.now a.order.now a.cursor.now a.out.now _ _ c.read_table.result c.read_table.ensures
    c.in_default.not-Err c.judge_asked.result c.judge_asked.ensures c.refused-in-Err-judge_asked.type_inv _ c.in-Err-judge_asked.is
    c.refused-in-Err-judge_asked.ensures

pub overflow_cast-result : goal.overflow_cast-result
overflow_cast-result c =
    let a = c.args in
    let fits = X.part-fits a.reasons a.runs.now a.jd1.now a.jd2.now a.numbers.now a.order.now a.cursor.now a.out.now _ _ c.read_table.result
    c.read_table.ensures
    c.in_default.not-Err c.judge_asked.result c.judge_asked.ensures c.in_default-judge_asked.not-Err _ c.listing_part_by_rows.result
    (X.call_by c.run_at.ensures c.run_at-2.ensures c.run_at-3.ensures c.u64_at.ensures c.u64_at-2.ensures c.u64_at-line.ensures c.u64_at-textless.ensures
    c.listing_part_by_rows.ensures) _ c.in-Ok.is in
    record { sfits = omega (arith, fits, c.well_formed) }

pub returns-in-Err-listing_part_by_rows : goal.returns-in-Err-listing_part_by_rows
returns-in-Err-listing_part_by_rows c =
    let a = c.args in
    X.part-refused a.reasons a.runs.now a.jd1.now a.jd2.now a.numbers.now a.order.now a.cursor.now a.out.now _ _ c.read_table.result c.read_table.ensures
    c.in_default.not-Err c.judge_asked.result c.judge_asked.ensures c.in_default-judge_asked.not-Err _ c.listing_part_by_rows.result
    (X.call_by c.run_at.ensures c.run_at-2.ensures c.run_at-3.ensures c.u64_at.ensures c.u64_at-2.ensures c.u64_at-line.ensures c.u64_at-textless.ensures
    c.listing_part_by_rows.ensures) _ c.refused-in-Err-listing_part_by_rows.type_inv c.in-Err-listing_part_by_rows.is
    c.refused-in-Err-listing_part_by_rows.ensures

pub returns-in-Ok : goal.returns-in-Ok
returns-in-Ok c =
    let a = c.args in
    let fits = X.part-fits a.reasons a.runs.now a.jd1.now a.jd2.now a.numbers.now a.order.now a.cursor.now a.out.now _ _ c.read_table.result
    c.read_table.ensures
    c.in_default.not-Err c.judge_asked.result c.judge_asked.ensures c.in_default-judge_asked.not-Err _ c.listing_part_by_rows.result
    (X.call_by c.run_at.ensures c.run_at-2.ensures c.run_at-3.ensures c.u64_at.ensures c.u64_at-2.ensures c.u64_at-line.ensures c.u64_at-textless.ensures
    c.listing_part_by_rows.ensures) _ c.in-Ok.is in
    X.part-written a.reasons a.runs.now a.jd1.now a.jd2.now a.numbers.now a.order.now a.cursor.now a.out.now _ _ c.read_table.result c.read_table.ensures
    c.in_default.not-Err c.judge_asked.result c.judge_asked.ensures c.in_default-judge_asked.not-Err _ c.listing_part_by_rows.result
    (X.call_by c.run_at.ensures c.run_at-2.ensures c.run_at-3.ensures c.u64_at.ensures c.u64_at-2.ensures c.u64_at-line.ensures c.u64_at-textless.ensures
    c.listing_part_by_rows.ensures) _ _ _ c.in-Ok.is (omega (arith, fits, c.well_formed)) c.put_nth_u64.ensures
    c.put_nth_u64-in-Ok.ensures
