-- `capi::block_calls::deliver_part` meets its contract. Assumes nothing.
use native.Mathlib.Omega.{arith}
use Rattle.refusals.specs.Refusal.{refusal_number}
use Rattle.leap_table.specs.rows.Announced.{rows_of}
use Rattle.capi.proofs.ListingParts.{no_room, count_fits, part-put}
use Rattle.capi.proofs.Tables.{text-table-refused, text-with-rows}
use Rattle.capi.proofs.block_calls.deliver_part.Goals as goal

pub returns-in-Err : goal.returns-in-Err
returns-in-Err c =
    text-table-refused _ c.announced_rows_at-rows.result c.judge_table.result c.judge_table.ensures c.announced_rows_at-rows.ensures _
    c.refused.type_inv _ c.in-Err.is c.refused.ensures

pub returns-then-out-room : goal.returns-then-out-room
unfolding refusal_number
returns-then-out-room c =
    let t = c.announced_rows_at-rows.result in
    let a = c.args in
    text-with-rows _ t c.judge_table.result c.judge_table.ensures c.announced_rows_at-rows.ensures _ c.in_default.not-Err
    (no_room a.reporting (rows_of t) a.block.now a.out.now a.line c.refused-then-out-room.type_inv (omega (arith, c.if-out-room.true, c.requires.0))
    c.refused-then-out-room.ensures)

pub overflow_cast-result : goal.overflow_cast-result
overflow_cast-result c = count_fits c.requires.1 c.next_part_by_rows-part.ensures

pub returns : goal.returns
returns c =
    text-with-rows _ c.announced_rows_at-rows.result c.judge_table.result c.judge_table.ensures c.announced_rows_at-rows.ensures _ c.in_default.not-Err
    (part-put c.requires.1 c.next_part_by_rows-part.ensures (omega (arith, c.if-out-room.false, c.requires.0)))
