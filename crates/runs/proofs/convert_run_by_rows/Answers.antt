-- `runs::convert_run_by_rows` meets its contract. Assumes nothing.
use Rattle.std.proofs.Common.{refl, sym, ◌∙◌}
use Rattle.refusals.specs.Outcome.{number_said}
use Rattle.leap_table.specs.rows.Announced.{rows_of}
use Rattle.runs.proofs.Short.{short-run}
use Rattle.runs.proofs.Calls.{run-refused, roomy, run_ends}
use Rattle.runs.proofs.convert_run_by_rows.Goals as goal

pub returns-in_err-judge_run : goal.returns-in_err-judge_run
unfolding number_said
returns-in_err-judge_run c = run-refused _ _ _ _ _ _ _ _ _ _ c.from_residual.ensures.1 c.in_err-judge_run.ensures

pub returns-then-is_short : goal.returns-then-is_short
returns-then-is_short c =
    let a = c.args in
    c.formula_run.ensures
    ∙ short-run (rows_of a.table.now) a.from a.to (sym c.is_short.ensures ∙ c.if-is_short.true) a.jd1s.now a.jd2s.now _
    a.out1.now a.out2.now a.numbers.now refl

pub change_all-count-requires : goal.change_all-count-requires
unfolding number_said
change_all-count-requires c =
    let a = c.args in (
      roomy (rows_of a.table.now) a.from a.to _ _ _ _ _ c.in_ok-judge_run.ensures,
      (sym c.reads_day.ensures ∙ c.if-not-reads_day.true, sym c.is_short.ensures ∙ c.if-is_short.false),
    )

pub returns-then-not-reads_day : goal.returns-then-not-reads_day
unfolding number_said
returns-then-not-reads_day c =
    let a = c.args in
    let rows = rows_of a.table.now in
    run_ends rows a.from a.to _ _ _ _ _ c.in_ok-judge_run.ensures _ _ _ _ (c.change_all-count.ensures rows)

pub convert_all-requires : goal.convert_all-requires
unfolding number_said
convert_all-requires c =
    let a = c.args in (
      roomy (rows_of a.table.now) a.from a.to _ _ _ _ _ c.in_ok-judge_run.ensures,
      sym c.reads_day.ensures ∙ c.if-not-reads_day.false,
    )

pub returns : goal.returns
unfolding number_said
returns c =
    let a = c.args in
    run_ends (rows_of a.table.now) a.from a.to _ _ _ _ _ c.in_ok-judge_run.ensures _ _ _ _ c.convert_all.ensures
