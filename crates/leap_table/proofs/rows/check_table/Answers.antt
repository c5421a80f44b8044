-- `leap_table::rows::check_table` meets its contract: a table that is taken has the fixed rows and as many as its size says. Assumes nothing.
use Rattle.std.proofs.Common.{◌≡◌, ℕ, ◌+◌, length, sym, ap, ◌∙◌, arith}
use Rattle.std.specs.Prelude.{Result, Ok}
use Rattle.refusals.specs.declared.Refusal.{Refusal}
use Rattle.refusals.specs.Outcome.{answer, outcome, number_said}
use Rattle.refusals.proofs.Handed.{handed_on}
use Rattle.leap_table.specs.declared.rows.AnnouncedRows.{AnnouncedRows}
use Rattle.leap_table.specs.rows.Table.{fixed_rows}
use Rattle.leap_table.specs.rows.Announced.{rows_of, table_of, announced_size, unless_refused}
use Rattle.leap_table.proofs.rows.Tables.{table-length}
use Rattle.leap_table.proofs.rows.TablesTaken.{table_answered, call_refused, call_taken, all-count, Taken, when_taken}
use Rattle.leap_table.proofs.rows.check_table.Goals as goal

found : (t : AnnouncedRows) (r : Result Unit Refusal) → unless_refused (number_said r) (rows_of t) ≡ table_of t → (u : Unit) → r ≡ Ok u → Taken t (rows_of t)
found t r e u p = when_taken t (rows_of t) (sym (table_answered t r e u p))

pub returns-in_err-judge_table : goal.returns-in_err-judge_table
returns-in_err-judge_table c =
    handed_on _ _ c.from_residual.ensures.1 ∙ call_refused c.args.table c.judge_table.result c.judge_table.ensures _ _ c.in_err-judge_table.was

pub overflow_add-result : goal.overflow_add-result
overflow_add-result c =
    let k = found c.args.table c.judge_table.result c.judge_table.ensures _ c.in_ok-judge_table.was in
    record { fits = omega (arith, k.most) }

pub returns : goal.returns
unfolding outcome
returns c =
    let t = c.args.table in
    let k = found t c.judge_table.result c.judge_table.ensures _ c.in_ok-judge_table.was in
    ap (λ (n : ℕ). answer (fixed_rows + n)) (sym (all-count t k.one_size k.most))
    ∙ ap answer (sym (table-length t (announced_size t)))
    ∙ call_taken t c.judge_table.result c.judge_table.ensures (λ rows. answer (length rows)) _ c.in_ok-judge_table.was
