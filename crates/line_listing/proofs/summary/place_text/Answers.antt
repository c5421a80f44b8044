-- `summary::place_text` meets its contract: the text stands where the call put it. Assumes nothing.
use Rattle.std.proofs.Common.{arith}
use Rattle.leap_table.specs.rows.Announced.{rows_of}
use Rattle.numerals.proofs.digits.Places.{lent_length, part-kept}
use Rattle.reasons.proofs.sentences.Placing.{placed-length}
use Rattle.stamps.proofs.Texts.{brief, text_refused}
use Rattle.line_listing.proofs.head.Pieces.{in_as, at_most}
use Rattle.line_listing.proofs.lines.Texts.{text-there, part_placed}
use Rattle.line_listing.proofs.summary.Tests as X
use Rattle.line_listing.proofs.summary.Pieces as Y
use Rattle.line_listing.proofs.summary.place_text.Goals as goal

pub overflow_add-result : goal.overflow_add-result
overflow_add-result c =
    let rows = rows_of c.args.table in
    let w = text-there rows c.args.utc c.to_iso8601_expanded_by_rows.ensures _ _ c.in-Ok.is in
    omega (arith, w.2, brief rows c.args.utc w.0 w.1, c.requires, c.well_formed)

pub returns-in-Ok : goal.returns-in-Ok
returns-in-Ok c =
    let rows = rows_of c.args.table in
    let w = text-there rows c.args.utc c.to_iso8601_expanded_by_rows.ensures _ _ c.in-Ok.is in
    let few = brief rows c.args.utc w.0 w.1 in
    let p = part_placed c.args.dst.now c.args.at (omega (arith, c.requires)) _ _ _ w.2 w.3 in
    in_as (Y.text-is _ _ w.1) (record {
      placed = p;
      within = omega (arith, w.2, few);
      long = placed-length p (omega (arith, few, c.requires));
    })

pub returns-in-Err : goal.returns-in-Err
returns-in-Err c =
    let rows = rows_of c.args.table in
    let room = lent_length c.args.dst.now c.args.at (omega (arith, c.requires)) in
    let w = text_refused rows c.args.utc c.to_iso8601_expanded_by_rows.ensures _ c.in-Err.is (omega (arith, room, c.requires)) in
    let kept = part-kept c.args.dst.now c.args.at (omega (arith, c.requires)) _ w.1 in
    in_as (Y.text-none _ _ w.0) (X.placed-from kept (at_most (omega arith) c.place_words.ensures))
