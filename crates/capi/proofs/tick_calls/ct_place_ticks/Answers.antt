-- `capi::tick_calls::ct_place_ticks` meets its contract. Assumes nothing.
use native.Mathlib.Omega.{arith}
use lib.ListN.{length}
use Rattle.ticks.specs.Ticks.{placed_ticks}
use Rattle.ticks.proofs.Calls.{placed-fits}
use Rattle.capi.proofs.Ticks.{ticks-count, ticks-put, ticks-refused}
use Rattle.capi.proofs.tick_calls.ct_place_ticks.Goals as goal

pub overflow_cast-result : goal.overflow_cast-result
overflow_cast-result c =
    let a = c.args in record {
      sfits = omega (
        arith,
        ticks-count (placed_ticks a.pass_ticks.now a.pass_millis.now a.ticks.now (length a.out.now)) a.out.now _ c.place_ticks.result
            (placed-fits a.pass_ticks.now a.pass_millis.now a.ticks.now (length a.out.now)) c.place_ticks.ensures _ c.in-Ok.is,
        c.well_formed,
      );
    }

pub returns-in-Ok : goal.returns-in-Ok
returns-in-Ok c =
    let a = c.args in
    ticks-put (placed_ticks a.pass_ticks.now a.pass_millis.now a.ticks.now (length a.out.now)) a.out.now _ c.place_ticks.result (placed-fits
    a.pass_ticks.now a.pass_millis.now a.ticks.now (length a.out.now)) c.place_ticks.ensures _ c.in-Ok.is
    (omega (
      arith,
      ticks-count (placed_ticks a.pass_ticks.now a.pass_millis.now a.ticks.now (length a.out.now)) a.out.now _ c.place_ticks.result
          (placed-fits a.pass_ticks.now a.pass_millis.now a.ticks.now (length a.out.now)) c.place_ticks.ensures _ c.in-Ok.is,
      c.well_formed,
    ))

pub returns-in-Err : goal.returns-in-Err
returns-in-Err c =
    let a = c.args in
    ticks-refused (placed_ticks a.pass_ticks.now a.pass_millis.now a.ticks.now (length a.out.now)) a.out.now _ c.place_ticks.result c.place_ticks.ensures _
    c.refused.type_inv c.in-Err.is c.refused.ensures
