-- `capi::run_bytes_calls::ct_take_run` meets its contract. Assumes nothing.
use native.Mathlib.Omega.{arith}
use Rattle.capi.proofs.RunBytes.{take_table_refused, take_counted, take_converted, take_refused}
use Rattle.capi.proofs.run_bytes_calls.ct_take_run.Goals as goal

pub returns-in-Err : goal.returns-in-Err
returns-in-Err c =
    let a = c.args in
    take_table_refused _ _ c.read_table.result c.read_table.ensures a.scale a.run.now a.jd1.now a.jd2.now a.numbers.now c.refused.type_inv _
    c.in-Err.is c.refused.ensures

pub overflow_cast-result : goal.overflow_cast-result
overflow_cast-result c =
    let a = c.args in
    record {
      sfits = omega (
        arith,
        take_counted _ _ c.read_table.result c.read_table.ensures a.scale a.run.now a.jd1.now a.jd2.now a.numbers.now
            c.in_default.not-Err c.take_run_by_rows.result c.take_run_by_rows.ensures _ c.in-Ok.is,
        c.well_formed,
      );
    }

pub returns-in-Ok : goal.returns-in-Ok
returns-in-Ok c =
    let a = c.args in
    take_converted _ _ c.read_table.result c.read_table.ensures a.scale a.run.now a.jd1.now a.jd2.now a.numbers.now c.in_default.not-Err
    c.take_run_by_rows.result c.take_run_by_rows.ensures _ c.in-Ok.is
    (omega (
      arith,
      take_counted _ _ c.read_table.result c.read_table.ensures a.scale a.run.now a.jd1.now a.jd2.now a.numbers.now c.in_default.not-Err
          c.take_run_by_rows.result c.take_run_by_rows.ensures _ c.in-Ok.is,
      c.well_formed,
    ))

pub returns-in-Err-take_run_by_rows : goal.returns-in-Err-take_run_by_rows
returns-in-Err-take_run_by_rows c =
    let a = c.args in
    take_refused _ _ c.read_table.result c.read_table.ensures a.scale a.run.now a.jd1.now a.jd2.now a.numbers.now c.in_default.not-Err
    c.take_run_by_rows.result c.take_run_by_rows.ensures _ c.refused-in-Err-take_run_by_rows.type_inv c.in-Err-take_run_by_rows.is
    c.refused-in-Err-take_run_by_rows.ensures
