-- `capi::list_calls::ct_read_table` meets its contract. Assumes nothing.
use native.Mathlib.Omega.{arith}
use mathlib.Core.Path.{◌∙◌}
use mir.Syntax.{w64}
use mir.Facts.{to_z_pos}
use Rattle.c_answers.proofs.Deliveries.{code-back}
use Rattle.capi.proofs.Lists.{not_read, short-table, short-known, both_put}
use Rattle.capi.proofs.list_calls.ct_read_table.Goals as goal
use Rattle.capi.proofs.list_calls.ct_read_table.Goals.{then-table-lt136-via-then-table-lt136, then-table-lt136-via-else-table-lt136+then-known-lt4}

pub returns-in-Err : goal.returns-in-Err
returns-in-Err c = not_read c.in-Err.fault c.in-Err.ensures (code-back c.refused.type_inv ∙ c.refused.ensures)

pub returns-then-table-lt136 : goal.returns-then-table-lt136
returns-then-table-lt136 c =
    let e = code-back c.refused-then-table-lt136.type_inv ∙ c.refused-then-table-lt136.ensures in
    elim c.then-table-lt136.branch [
      | then-table-lt136-via-then-table-lt136 w ↦ short-table c.in-Ok.found c.in-Ok.ensures w.if-table-lt136.true e
      | then-table-lt136-via-else-table-lt136+then-known-lt4 w ↦
          short-known c.in-Ok.found c.in-Ok.ensures w.if-table-lt136.false w.if-known-lt4.true e
    ]

pub returns : goal.returns
returns c =
    both_put c.in-Ok.found c.in-Ok.ensures c.if-table-lt136.false c.if-known-lt4.false c.put_table.ensures c.put_u32.ensures
    (to_z_pos w64 {n = c.in-Ok.found.table.months_size} (omega arith))
