-- `capi::text_run_calls::ct_texts_of_run` meets its contract. Assumes nothing.
use native.Mathlib.Omega.{arith}
use Rattle.capi.proofs.RunTexts.{texts-table-refused, texts-form-refused, texts-counted, texts-written, texts-refused}
use Rattle.capi.proofs.text_run_calls.ct_texts_of_run.Goals as goal

pub returns-in-Err : goal.returns-in-Err
returns-in-Err c =
    let a = c.args in
    texts-table-refused _ _ c.read_table.result c.read_table.ensures a.text_form a.jd1.now a.jd2.now a.texts.now a.lengths.now a.numbers.now
    c.refused.type_inv _ c.in-Err.is c.refused.ensures

pub returns-then-text_form-gt2 : goal.returns-then-text_form-gt2
returns-then-text_form-gt2 c =
    let a = c.args in
    texts-form-refused _ _ c.read_table.result c.read_table.ensures a.text_form a.jd1.now a.jd2.now a.texts.now a.lengths.now a.numbers.now
    c.refused-then-text_form-gt2.type_inv c.in_default.not-Err
    c.if-text_form-gt2.true c.refused-then-text_form-gt2.ensures

pub overflow_cast-result : goal.overflow_cast-result
overflow_cast-result c =
    let a = c.args in
    record {
      sfits = omega (
        arith,
        texts-counted _ _ c.read_table.result c.read_table.ensures a.text_form a.jd1.now a.jd2.now a.texts.now
            a.lengths.now a.numbers.now
            c.in_default.not-Err c.if-text_form-gt2.false c.form_of.result c.form_of.ensures c.texts_of_run_by_rows.result
            c.texts_of_run_by_rows.ensures _ c.in-Ok.is,
        c.well_formed,
      );
    }

pub returns-in-Ok : goal.returns-in-Ok
returns-in-Ok c =
    let a = c.args in
    texts-written _ _ c.read_table.result c.read_table.ensures a.text_form a.jd1.now a.jd2.now a.texts.now a.lengths.now a.numbers.now
    c.in_default.not-Err c.if-text_form-gt2.false c.form_of.result c.form_of.ensures c.texts_of_run_by_rows.result c.texts_of_run_by_rows.ensures _
    c.in-Ok.is
    (omega (
      arith,
      texts-counted _ _ c.read_table.result c.read_table.ensures a.text_form a.jd1.now a.jd2.now a.texts.now a.lengths.now
          a.numbers.now
          c.in_default.not-Err c.if-text_form-gt2.false c.form_of.result c.form_of.ensures c.texts_of_run_by_rows.result
          c.texts_of_run_by_rows.ensures
          _ c.in-Ok.is,
      c.well_formed,
    ))

pub returns-in-Err-texts_of_run_by_rows : goal.returns-in-Err-texts_of_run_by_rows
returns-in-Err-texts_of_run_by_rows c =
    let a = c.args in
    texts-refused _ _ c.read_table.result c.read_table.ensures a.text_form a.jd1.now a.jd2.now a.texts.now a.lengths.now a.numbers.now
    c.in_default.not-Err c.if-text_form-gt2.false c.form_of.result c.form_of.ensures c.texts_of_run_by_rows.result c.texts_of_run_by_rows.ensures _
    c.refused-in-Err-texts_of_run_by_rows.type_inv c.in-Err-texts_of_run_by_rows.is c.refused-in-Err-texts_of_run_by_rows.ensures
