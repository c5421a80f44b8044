-- `runs::convert_run` meets its contract: the table is tested, and its rows are read. Assumes nothing.
use Rattle.std.proofs.Common.{ℕ, refl, ap, ◌∙◌}
use native.Mathlib.Omega.{arith}
use Rattle.refusals.specs.Outcome.{Outcome, number_said}
use Rattle.refusals.proofs.Handed.{handed_on, number_low}
use Rattle.leap_table.specs.rows.Announced.{rows_of, table_of}
use Rattle.runs.specs.by_formula.Run.{run_call}
use Rattle.runs.proofs.Calls.{table-refused, table_taken}
use Rattle.runs.proofs.convert_run.Goals as goal

pub returns-in_err-judge_table : goal.returns-in_err-judge_table
unfolding number_said
returns-in_err-judge_table c =
    let a = c.args in
    ap (λ (o : Outcome ℕ). run_call o a.out1.now a.out2.now a.numbers.now) (handed_on _ _ c.from_residual.ensures.1)
    ∙ table-refused (table_of a.table) (rows_of a.table) _ c.in_err-judge_table.ensures a.from a.to a.jd1s.now a.jd2s.now
    a.out1.now a.out2.now a.numbers.now (λ z. omega (arith, z, number_low c.in_err-judge_table.field-0.0))

pub returns : goal.returns
unfolding number_said
returns c =
    let a = c.args in
    c.convert_run_by_rows.ensures
    ∙ table_taken (table_of a.table) (rows_of a.table) 0 c.in_ok-judge_table.ensures a.from a.to a.jd1s.now a.jd2s.now
    a.out1.now a.out2.now a.numbers.now refl
