-- `listing::listing_part` meets its contract: the table is tested, and the part is made by its rows. Assumes nothing.
use Rattle.leap_table.specs.rows.Announced.{rows_of, table_of}
use Rattle.leap_table.proofs.rows.TablesTaken.{table_refused, table_answered}
use Rattle.line_listing.specs.lines.StampLine.{stamps}
use Rattle.line_listing.proofs.listing.Steps.{table-refused, table_taken}
use Rattle.line_listing.proofs.listing.listing_part.Goals as goal

pub returns-in_err-judge_table : goal.returns-in_err-judge_table
returns-in_err-judge_table c =
    let a = c.args in
    table-refused a.sentences (rows_of a.table) a.gps a.tai a.utc (stamps a.jd1s.now a.jd2s.now a.numbers.now a.first a.second)
    a.order.now a.line a.textless a.out.now (table_of a.table) _ _
    (table_refused a.table c.judge_table.result c.judge_table.ensures _ c.in_err-judge_table.was) c.from_residual.ensures.1

pub returns : goal.returns
returns c =
    let a = c.args in
    table_taken a.sentences (rows_of a.table) a.gps a.tai a.utc (stamps a.jd1s.now a.jd2s.now a.numbers.now a.first a.second)
    a.order.now a.line a.textless a.out.now (table_of a.table) _ _
    (table_answered a.table c.judge_table.result c.judge_table.ensures _ c.in_ok-judge_table.was) c.listing_part_by_rows.ensures
