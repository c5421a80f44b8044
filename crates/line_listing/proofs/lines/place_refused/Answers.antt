-- `lines::place_refused` meets its contract: the words and the number. Assumes nothing.
use Rattle.std.proofs.Common.{arith}
use Rattle.numerals.proofs.digits.Places.{then}
use Rattle.line_listing.specs.lines.StampLine.{refused}
use Rattle.line_listing.proofs.lines.Lengths.{room-low}
use Rattle.line_listing.proofs.lines.place_refused.Goals as goal

pub returns-clause-placed : goal.returns-clause-placed
unfolding refused
returns-clause-placed c =
    let p = c.place_bytes-start.ensures.written (omega (arith, room-low c.args.sentences, c.requires.1)) in
    let q = c.place_number.ensures in
    then p q.placed (omega (arith, p.ends, q.result_bound, c.requires.1))
