-- `lines::place_no_text` meets its contract: the words and the number. Assumes nothing.
use Rattle.std.proofs.Common.{refl, arith}
use Rattle.numerals.proofs.digits.Places.{then}
use Rattle.line_listing.specs.lines.StampLine.{no_text}
use Rattle.line_listing.proofs.lines.Lengths.{room-low}
use Rattle.line_listing.proofs.lines.place_no_text.Goals as goal

pub returns-clause-told_at : goal.returns-clause-told_at
unfolding no_text
returns-clause-told_at c =
    let p = c.place_bytes-start.ensures.written (omega (arith, room-low c.args.sentences, c.requires.1)) in
    let q = c.place_number-next.ensures in
    record { placed = then p q.placed (omega (arith, p.ends, q.result_bound, c.requires.1)); counted = refl }
