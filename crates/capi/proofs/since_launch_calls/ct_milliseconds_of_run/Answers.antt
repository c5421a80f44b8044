-- `capi::since_launch_calls::ct_milliseconds_of_run` meets its contract. Assumes nothing.
use native.Mathlib.Omega.{arith}
use Rattle.julian.specs.JulianDate.{julian}
use Rattle.capi.proofs.Millis.{all-written, all-refused, written_count}
use Rattle.capi.proofs.since_launch_calls.ct_milliseconds_of_run.Goals as goal

pub overflow_cast-result : goal.overflow_cast-result
overflow_cast-result c =
    let a = c.args in record {
      sfits = omega (
        arith,
        written_count (julian a.from1 a.from2) a.jd1.now a.jd2.now a.millis.now a.numbers.now c.milliseconds_of_run.result
            c.milliseconds_of_run.ensures _ c.in-Ok.is,
        c.well_formed,
      );
    }

pub returns-in-Ok : goal.returns-in-Ok
returns-in-Ok c =
    let a = c.args in
    all-written (julian a.from1 a.from2) a.jd1.now a.jd2.now a.millis.now a.numbers.now c.milliseconds_of_run.result c.milliseconds_of_run.ensures _ c.in-Ok.is
    (omega (
      arith,
      written_count (julian a.from1 a.from2) a.jd1.now a.jd2.now a.millis.now a.numbers.now c.milliseconds_of_run.result
          c.milliseconds_of_run.ensures _ c.in-Ok.is,
      c.well_formed,
    ))

pub returns-in-Err : goal.returns-in-Err
returns-in-Err c =
    let a = c.args in
    all-refused (julian a.from1 a.from2) a.jd1.now a.jd2.now a.millis.now a.numbers.now c.milliseconds_of_run.result c.milliseconds_of_run.ensures _
    c.refused.type_inv c.in-Err.is c.refused.ensures
