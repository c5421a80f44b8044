-- `c_answers::table::judge_table` meets its contract. Assumes nothing.
use mathlib.Core.Path.{sym, ◌∙◌}
use Rattle.refusals.specs.Refusal.{refusal_number}
use Rattle.refusals.specs.Outcome.{seen}
use Rattle.leap_table.specs.rows.Announced.{rows_of, table_of}
use Rattle.c_answers.proofs.table.Reading.{wrong_length, refuses-none, of_length_136, as_seen}
use Rattle.c_answers.proofs.table.judge_table.Goals as goal

pub returns-then-length-ne136 : goal.returns-then-length-ne136
unfolding seen refusal_number
returns-then-length-ne136 c = wrong_length c.args.length (table_of c.args.rows) c.if-length-ne136.true

pub returns-then-lend_none : goal.returns-then-lend_none
unfolding seen
returns-then-lend_none c = refuses-none c.args.length c.args.rows c.if-length-ne136.false (sym c.lend_none.ensures ∙ c.if-lend_none.true)

pub returns : goal.returns
returns c =
    let t = c.args.rows in
    as_seen (rows_of t) c.judge_table.result ∙ c.judge_table.ensures ∙ of_length_136 c.args.length (table_of t) c.if-length-ne136.false
