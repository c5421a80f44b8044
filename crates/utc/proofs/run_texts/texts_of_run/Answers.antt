-- `utc::run_texts::texts_of_run` meets its contract: the table is tested, and its rows are read. Assumes nothing.
use Rattle.std.proofs.Common.{ℕ, ap, ◌∙◌}
use Rattle.refusals.specs.Outcome.{Outcome}
use Rattle.refusals.proofs.Handed.{handed_on}
use Rattle.leap_table.specs.rows.Announced.{rows_of, table_of}
use Rattle.leap_table.proofs.rows.TablesTaken.{table_refused, table_answered}
use Rattle.utc.specs.iso_texts.Named.{form_named}
use Rattle.utc.specs.run_texts.RunTexts.{texts_call}
use Rattle.utc.proofs.run_texts.Calls.{table-refused, table_taken}
use Rattle.utc.proofs.run_texts.texts_of_run.Goals as goal

pub returns-in_err-judge_table : goal.returns-in_err-judge_table
returns-in_err-judge_table c =
    let a = c.args in
    ap (λ (o : Outcome ℕ). texts_call o a.texts.now a.lengths.now a.numbers.now) (handed_on _ _ c.from_residual.ensures.1)
    ∙ table-refused (table_of a.table) _ (table_refused a.table c.judge_table.result c.judge_table.ensures _ c.in_err-judge_table.was) (form_named a.textForm)
    a.jd1s.now a.jd2s.now a.texts.now a.lengths.now a.numbers.now

pub returns : goal.returns
returns c =
    let a = c.args in
    c.texts_of_run_by_rows.ensures
    ∙ table_taken (table_of a.table) (rows_of a.table) (table_answered a.table c.judge_table.result c.judge_table.ensures _ c.in_ok-judge_table.was)
    (form_named a.textForm) a.jd1s.now a.jd2s.now a.texts.now a.lengths.now a.numbers.now
