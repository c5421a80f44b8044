-- `capi::run_calls::ct_convert_run` meets its contract. Assumes nothing.
use native.Mathlib.Omega.{arith}
use Rattle.capi.proofs.Runs.{run-table-refused, run-counted, run-converted, run-refused}
use Rattle.capi.proofs.run_calls.ct_convert_run.Goals as goal

pub returns-in-Err : goal.returns-in-Err
returns-in-Err c =
    let a = c.args in
    run-table-refused _ _ c.read_table.result c.read_table.ensures a.from a.to a.jd1.now a.jd2.now a.out1.now a.out2.now a.numbers.now
    c.refused.type_inv _ c.in-Err.is c.refused.ensures

pub overflow_cast-result : goal.overflow_cast-result
overflow_cast-result c =
    let a = c.args in
    record {
      sfits = omega (
        arith,
        run-counted _ _ c.read_table.result c.read_table.ensures a.from a.to a.jd1.now a.jd2.now a.out1.now a.out2.now
            a.numbers.now
            c.in_default.not-Err c.convert_run_by_rows.result c.convert_run_by_rows.ensures _ c.in-Ok.is,
        c.well_formed,
      );
    }

pub returns-in-Ok : goal.returns-in-Ok
returns-in-Ok c =
    let a = c.args in
    run-converted _ _ c.read_table.result c.read_table.ensures a.from a.to a.jd1.now a.jd2.now a.out1.now a.out2.now a.numbers.now
    c.in_default.not-Err c.convert_run_by_rows.result c.convert_run_by_rows.ensures _ c.in-Ok.is
    (omega (
      arith,
      run-counted _ _ c.read_table.result c.read_table.ensures a.from a.to a.jd1.now a.jd2.now a.out1.now a.out2.now
          a.numbers.now
          c.in_default.not-Err c.convert_run_by_rows.result c.convert_run_by_rows.ensures _ c.in-Ok.is,
      c.well_formed,
    ))

pub returns-in-Err-convert_run_by_rows : goal.returns-in-Err-convert_run_by_rows
returns-in-Err-convert_run_by_rows c =
    let a = c.args in
    run-refused _ _ c.read_table.result c.read_table.ensures a.from a.to a.jd1.now a.jd2.now a.out1.now a.out2.now a.numbers.now c.in_default.not-Err
    c.convert_run_by_rows.result c.convert_run_by_rows.ensures _ c.refused-in-Err-convert_run_by_rows.type_inv c.in-Err-convert_run_by_rows.is
    c.refused-in-Err-convert_run_by_rows.ensures
