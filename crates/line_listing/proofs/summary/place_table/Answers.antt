-- `summary::place_table` meets its contract. Assumes nothing.
use Rattle.std.proofs.Common.{arith}
use Rattle.leap_table.specs.rows.Announced.{rows_of}
use Rattle.line_listing.proofs.head.Pieces.{and_then, in_as, at_most}
use Rattle.line_listing.proofs.summary.Pieces as Y
use Rattle.line_listing.proofs.summary.place_table.Goals as goal

pub returns : goal.returns
returns c =
    let p0 = c.place_rows-a.ensures in
    let p1 = c.place_seconds-b.ensures in
    let p2 = c.place_day.ensures in in_as
    (Y.table_is (rows_of c.args.table) c.args.known _ _ _ _ _ _ c.row_count-count.ensures c.last_month-month.ensures.0
    c.row_seconds-seconds.ensures c.lent_rows-lent.ensures c.known_until.ensures.0 c.date_of-date.ensures)
    (at_most (omega (arith, c.requires)) (and_then (and_then p0 p1 (omega (arith, c.requires))) p2 (omega (arith, c.requires))))
