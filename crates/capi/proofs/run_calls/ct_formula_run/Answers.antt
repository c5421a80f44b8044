-- `capi::run_calls::ct_formula_run` meets its contract. Assumes nothing.
use native.Mathlib.Omega.{arith}
use Rattle.capi.proofs.Runs.{all-converted, all-refused, formula_counted}
use Rattle.capi.proofs.run_calls.ct_formula_run.Goals as goal

pub overflow_cast-result : goal.overflow_cast-result
overflow_cast-result c =
    let a = c.args in record {
      sfits = omega (
        arith,
        formula_counted a.from a.to a.jd1.now a.jd2.now a.offsets.now a.out1.now a.out2.now a.numbers.now c.formula_run.result
            c.formula_run.ensures _ c.in-Ok.is,
        c.well_formed,
      );
    }

pub returns-in-Ok : goal.returns-in-Ok
returns-in-Ok c =
    let a = c.args in
    all-converted _ c.formula_run.result c.formula_run.ensures _ c.in-Ok.is
    (omega (
      arith,
      formula_counted a.from a.to a.jd1.now a.jd2.now a.offsets.now a.out1.now a.out2.now a.numbers.now c.formula_run.result
          c.formula_run.ensures _ c.in-Ok.is,
      c.well_formed,
    ))

pub returns-in-Err : goal.returns-in-Err
returns-in-Err c =
    let a = c.args in
    all-refused _ c.formula_run.result c.formula_run.ensures _ c.refused.type_inv c.in-Err.is c.refused.ensures
