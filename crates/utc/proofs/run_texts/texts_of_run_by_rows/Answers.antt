-- `utc::run_texts::texts_of_run_by_rows` meets its contract. Assumes nothing.
use Rattle.std.proofs.Common.{ℕ, ap, ◌∙◌}
use Rattle.refusals.specs.Outcome.{Outcome, outcome}
use Rattle.refusals.proofs.Handed.{handed_on}
use Rattle.leap_table.specs.rows.Announced.{rows_of}
use Rattle.utc.specs.iso_texts.Named.{form_named}
use Rattle.utc.specs.run_texts.RunTexts.{texts_call}
use Rattle.utc.proofs.run_texts.Calls.{run-refused, roomy, run_ends}
use Rattle.utc.proofs.run_texts.texts_of_run_by_rows.Goals as goal

pub returns-in_err-judge_lengths : goal.returns-in_err-judge_lengths
returns-in_err-judge_lengths c =
    let a = c.args in
    ap (λ (o : Outcome ℕ). texts_call o a.texts.now a.lengths.now a.numbers.now) (handed_on _ _ c.from_residual.ensures.1)
    ∙ run-refused (form_named a.textForm) (rows_of a.table.now) a.jd1s.now a.jd2s.now a.texts.now
    a.lengths.now a.numbers.now c.judge_lengths.result c.judge_lengths.ensures _ c.in_err-judge_lengths.was

pub put_all-requires : goal.put_all-requires
put_all-requires c =
    let a = c.args in
    roomy (form_named a.textForm) (rows_of a.table.now) a.jd1s.now a.jd2s.now a.texts.now
    a.lengths.now a.numbers.now c.judge_lengths.result c.judge_lengths.ensures _ c.in_ok-judge_lengths.was

pub returns : goal.returns
unfolding outcome
returns c =
    let a = c.args in
    run_ends (form_named a.textForm) (rows_of a.table.now) a.jd1s.now a.jd2s.now a.texts.now
    a.lengths.now a.numbers.now c.judge_lengths.result c.judge_lengths.ensures _ c.in_ok-judge_lengths.was _ _ _ _ c.put_all.ensures
