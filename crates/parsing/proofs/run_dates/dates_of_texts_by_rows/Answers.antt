-- `parsing::run_dates::dates_of_texts_by_rows` meets its contract. Assumes nothing.
use Rattle.refusals.specs.Outcome.{outcome}
use Rattle.leap_table.specs.rows.Announced.{rows_of}
use Rattle.parsing.proofs.run_dates.Calls.{roomy, run_ends}
use Rattle.parsing.proofs.run_dates.dates_of_texts_by_rows.Goals as goal

pub read_all-requires : goal.read_all-requires
read_all-requires c =
    let a = c.args in
    roomy (rows_of a.table.now) a.texts.now a.lengths.now a.out1.now a.out2.now
    a.numbers.now c.judge_lengths.result c.judge_lengths.ensures _ c.in_ok-judge_lengths.was

pub returns : goal.returns
unfolding outcome
returns c =
    let a = c.args in
    run_ends (rows_of a.table.now) a.texts.now a.lengths.now a.out1.now a.out2.now
    a.numbers.now c.judge_lengths.result c.judge_lengths.ensures _ c.in_ok-judge_lengths.was _ _ _ _ c.read_all.ensures
