-- `capi::tick_calls::ct_place_readings` meets its contract. Assumes nothing.
use native.Mathlib.Omega.{arith}
use Rattle.capi.proofs.Places.{places-counted, places-written, places-refused}
use Rattle.capi.proofs.tick_calls.ct_place_readings.Goals as goal

pub overflow_cast-result : goal.overflow_cast-result
overflow_cast-result c =
    let a = c.args in record {
      sfits = omega (
        arith,
        places-counted a.pass_millis.now a.pass_places.now a.millis.now a.places.now a.numbers.now c.place_readings.result
            c.place_readings.ensures _ c.in-Ok.is,
        c.well_formed,
      );
    }

pub returns-in-Ok : goal.returns-in-Ok
returns-in-Ok c =
    let a = c.args in
    places-written a.pass_millis.now a.pass_places.now a.millis.now a.places.now a.numbers.now c.place_readings.result c.place_readings.ensures _ c.in-Ok.is
    (omega (
      arith,
      places-counted a.pass_millis.now a.pass_places.now a.millis.now a.places.now a.numbers.now c.place_readings.result
          c.place_readings.ensures _ c.in-Ok.is,
      c.well_formed,
    ))

pub returns-in-Err : goal.returns-in-Err
returns-in-Err c =
    let a = c.args in
    places-refused a.pass_millis.now a.pass_places.now a.millis.now a.places.now a.numbers.now c.place_readings.result c.place_readings.ensures _
    c.refused.type_inv c.in-Err.is c.refused.ensures
