-- `lines::next_part` meets its contract: the table is tested, and the page of its rows is written. Assumes nothing.
use Rattle.std.proofs.Common.{◌/◌, length}
use native.Mathlib.Omega.{arith}
use Rattle.leap_table.specs.rows.Announced.{rows_of, table_of}
use Rattle.leap_table.proofs.rows.TablesTaken.{table_refused, table_answered}
use Rattle.line_listing.specs.lines.Parts.{lines_of_order, listed_count}
use Rattle.line_listing.proofs.lines.Whole.{few-lines, no_lines, part-done, part-refused}
use Rattle.line_listing.proofs.lines.next_part.Goals as goal

pub returns-in_err-judge_table : goal.returns-in_err-judge_table
returns-in_err-judge_table c =
    part-refused c.args.sentences _ _ _ _ (table_of c.args.table) _ _
    (table_refused c.args.table c.judge_table.result c.judge_table.ensures _ c.in_err-judge_table.was) c.from_residual.ensures.1

pub returns-then-count-eq0 : goal.returns-then-count-eq0
unfolding listed_count lines_of_order
returns-then-count-eq0 c =
    part-done c.args.sentences (rows_of c.args.table) _ _ _ _ _ _ (table_of c.args.table) _
    (table_answered c.args.table c.judge_table.result c.judge_table.ensures _ c.in_ok-judge_table.was) c.part_lines-count.ensures
    (no_lines _ _ _ _ _ _ _ c.if-count-eq0.true)

pub page_part-requires : goal.page_part-requires
page_part-requires c =
    let f = few-lines c.args.sentences (length c.args.order.now / 4) c.args.line (length c.args.out.now) _ c.part_lines-count.ensures in
    (f.0, omega (arith, f.1 (omega arith), c.well_formed), f.2)

pub returns : goal.returns
unfolding listed_count lines_of_order
returns c =
    part-done c.args.sentences (rows_of c.args.table) _ _ _ _ _ _ (table_of c.args.table) _
    (table_answered c.args.table c.judge_table.result c.judge_table.ensures _ c.in_ok-judge_table.was) c.part_lines-count.ensures
    c.page_part.ensures
