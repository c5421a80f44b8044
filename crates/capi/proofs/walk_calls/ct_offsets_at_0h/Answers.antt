-- `capi::walk_calls::ct_offsets_at_0h` meets its contract. Assumes nothing.
use native.Mathlib.Omega.{arith}
use Rattle.capi.proofs.Walks.{walk-length-refused, walk-count, walk-compared, walk_refused}
use Rattle.capi.proofs.walk_calls.ct_offsets_at_0h.Goals as goal

pub returns-then-table-ne136 : goal.returns-then-table-ne136
returns-then-table-ne136 c =
    walk-length-refused _ c.args.dates.now c.args.out.now c.refused.type_inv c.if-table-ne136.true c.refused.ensures

pub overflow_cast-result : goal.overflow_cast-result
overflow_cast-result c = record {
  sfits = omega (
    arith,
    walk-count _ c.args.dates.now c.args.out.now c.if-table-ne136.false c.announced_rows_at-rows.result c.announced_rows_at-rows.ensures
        c.offsets_at_0h_bytes.result c.offsets_at_0h_bytes.ensures _ c.in-Ok.is,
    c.well_formed,
  );
}

pub returns-in-Ok : goal.returns-in-Ok
returns-in-Ok c =
    walk-compared _ c.args.dates.now c.args.out.now c.if-table-ne136.false c.announced_rows_at-rows.result c.announced_rows_at-rows.ensures
    c.offsets_at_0h_bytes.result c.offsets_at_0h_bytes.ensures _ c.in-Ok.is
    (omega (
      arith,
      walk-count _ c.args.dates.now c.args.out.now c.if-table-ne136.false c.announced_rows_at-rows.result c.announced_rows_at-rows.ensures
          c.offsets_at_0h_bytes.result c.offsets_at_0h_bytes.ensures _ c.in-Ok.is,
      c.well_formed,
    ))

pub returns-in-Err : goal.returns-in-Err
returns-in-Err c =
    walk_refused _ c.args.dates.now c.args.out.now c.if-table-ne136.false c.announced_rows_at-rows.result c.announced_rows_at-rows.ensures
    c.offsets_at_0h_bytes.result c.offsets_at_0h_bytes.ensures _ c.refused-in-Err.type_inv c.in-Err.is c.refused-in-Err.ensures
