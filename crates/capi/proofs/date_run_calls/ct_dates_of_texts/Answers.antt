-- `capi::date_run_calls::ct_dates_of_texts` meets its contract. Assumes nothing.
use native.Mathlib.Omega.{arith}
use Rattle.capi.proofs.Runs.{dates_table_refused, dates_counted, dates_read, dates_refused}
use Rattle.capi.proofs.date_run_calls.ct_dates_of_texts.Goals as goal

pub returns-in-Err : goal.returns-in-Err
returns-in-Err c =
    let a = c.args in
    dates_table_refused _ _ c.read_table.result c.read_table.ensures a.texts.now a.lengths.now a.out1.now a.out2.now a.numbers.now
    c.refused.type_inv _ c.in-Err.is c.refused.ensures

pub overflow_cast-result : goal.overflow_cast-result
overflow_cast-result c =
    let a = c.args in
    record {
      sfits = omega (
        arith,
        dates_counted _ _ c.read_table.result c.read_table.ensures a.texts.now a.lengths.now a.out1.now a.out2.now
            a.numbers.now c.in_default.not-Err c.dates_of_texts_by_rows.result c.dates_of_texts_by_rows.ensures _ c.in-Ok.is,
        c.well_formed,
      );
    }

pub returns-in-Ok : goal.returns-in-Ok
returns-in-Ok c =
    let a = c.args in
    dates_read _ _ c.read_table.result c.read_table.ensures a.texts.now a.lengths.now a.out1.now a.out2.now a.numbers.now c.in_default.not-Err
    c.dates_of_texts_by_rows.result c.dates_of_texts_by_rows.ensures _ c.in-Ok.is
    (omega (
      arith,
      dates_counted _ _ c.read_table.result c.read_table.ensures a.texts.now a.lengths.now a.out1.now a.out2.now a.numbers.now c.in_default.not-Err
          c.dates_of_texts_by_rows.result c.dates_of_texts_by_rows.ensures _ c.in-Ok.is,
      c.well_formed,
    ))

pub returns-in-Err-dates_of_texts_by_rows : goal.returns-in-Err-dates_of_texts_by_rows
returns-in-Err-dates_of_texts_by_rows c =
    let a = c.args in
    dates_refused _ _ c.read_table.result c.read_table.ensures a.texts.now a.lengths.now a.out1.now a.out2.now a.numbers.now c.in_default.not-Err
    c.dates_of_texts_by_rows.result c.dates_of_texts_by_rows.ensures _ c.refused-in-Err-dates_of_texts_by_rows.type_inv
    c.in-Err-dates_of_texts_by_rows.is
    c.refused-in-Err-dates_of_texts_by_rows.ensures
