-- `c_answers::table::announced_rows_at` meets its contract. Assumes nothing.
use mathlib.Core.Path.{sym, ◌∙◌}
use Rattle.c_answers.proofs.table.Reading.{all_read, reads_none, of_136, of_another}
use Rattle.c_answers.proofs.table.announced_rows_at.Goals as goal

pub returns-then-bytes-ne136 : goal.returns-then-bytes-ne136
returns-then-bytes-ne136 c = of_another _ _ c.if-bytes-ne136.true

pub returns-then-lend_none : goal.returns-then-lend_none
returns-then-lend_none c =
    let s = c.args.bytes.now in
    of_136 s _ c.if-bytes-ne136.false
    (reads_none s _ _ _ c.u32_at-months_size.ensures c.u32_at-seconds_size.ensures (sym c.lend_none.ensures ∙ c.if-lend_none.true)
    c.no_rows-then-lend_none.ensures)

pub returns : goal.returns
returns c =
    let s = c.args.bytes.now in
    of_136 s _ c.if-bytes-ne136.false
    (all_read s _ c.u32_at-months_size.ensures c.u32_at-seconds_size.ensures c.numbers_at-months.ensures c.numbers_at-seconds.ensures)
