-- `listing::lines_step` meets its contract: the page of the lines. Assumes nothing.
use Rattle.std.proofs.Common.{◌-◌, ◌/◌, length, arith}
use Rattle.leap_table.specs.rows.Announced.{rows_of}
use Rattle.line_listing.specs.lines.StampLine.{stamps}
use Rattle.line_listing.specs.lines.Parts.{lines_of_order, listed_count}
use Rattle.line_listing.proofs.lines.Whole.{few-lines}
use Rattle.line_listing.proofs.listing.Steps.{lines-stepped}
use Rattle.line_listing.proofs.listing.lines_step.Goals as goal

pub page_part-part-requires : goal.page_part-part-requires
unfolding lines_of_order
page_part-part-requires c =
    let f = few-lines c.args.sentences (length c.args.order.now / 4) (c.args.line - 1) (length c.args.out.now) _
    c.part_lines-count.ensures in
    (f.0, omega (arith, c.requires.0, c.requires.1, c.well_formed), f.2)

pub returns : goal.returns
unfolding listed_count lines_of_order
returns c =
    lines-stepped c.args.sentences (rows_of c.args.table.now)
    (stamps c.args.jd1s.now c.args.jd2s.now c.args.numbers.now c.args.first c.args.second)
    c.args.order.now c.args.line c.args.textless c.args.out.now _ _ c.page_part-part.result _
    c.part_lines-count.ensures c.page_part-part.ensures
    c.wrapping_add_usize.ensures.value
