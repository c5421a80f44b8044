-- `c_answers::table::arrays::read_table` meets its contract. Assumes nothing.
use mathlib.Core.Path.{sym, ◌∙◌}
use Rattle.refusals.specs.Refusal.{refusal_number}
use Rattle.refusals.specs.Outcome.{seen}
use Rattle.leap_table.specs.rows.Announced.{rows_of, announced_table}
use Rattle.c_answers.proofs.table.Reading.{wrong_bytes, read_none, read-two-sizes, read-large, whole-table, as_seen}
use Rattle.c_answers.proofs.table.arrays.read_table.Goals as goal

pub returns-then-bytes-ne136 : goal.returns-then-bytes-ne136
unfolding seen refusal_number
returns-then-bytes-ne136 c = wrong_bytes _ c.if-bytes-ne136.true

pub returns-then-lend_none : goal.returns-then-lend_none
unfolding seen
returns-then-lend_none c =
    read_none _ _ _ c.u32_at-months_size.ensures c.u32_at-seconds_size.ensures c.if-bytes-ne136.false _ _ (sym c.lend_none.ensures ∙ c.if-lend_none.true)

pub returns-then-months_size-seconds_size : goal.returns-then-months_size-seconds_size
unfolding seen refusal_number
returns-then-months_size-seconds_size c =
    read-two-sizes _ _ _ c.u32_at-months_size.ensures c.u32_at-seconds_size.ensures c.if-bytes-ne136.false c.if-months_size-seconds_size.true

pub returns-then-months_size-gt16 : goal.returns-then-months_size-gt16
unfolding seen refusal_number
returns-then-months_size-gt16 c =
    read-large _ _ _ c.u32_at-months_size.ensures c.u32_at-seconds_size.ensures c.if-bytes-ne136.false c.if-months_size-seconds_size.false
    c.if-months_size-gt16.true

pub returns : goal.returns
returns c =
    let t = announced_table c.u32_at-months_size.result c.u32_at-seconds_size.result c.put_numbers.new.numbers c.put_numbers-2.new.numbers in
    as_seen (rows_of t) c.judge_table.result
    ∙ c.judge_table.ensures
    ∙ whole-table c.args.bytes.now t c.u32_at-months_size.ensures c.u32_at-seconds_size.ensures c.put_numbers.ensures c.put_numbers-2.ensures
    c.if-bytes-ne136.false
