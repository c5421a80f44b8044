-- `summary::place_line` meets its contract. Assumes nothing.
use Rattle.std.proofs.Common.{arith}
use Rattle.line_listing.specs.summary.Summary as S
use Rattle.line_listing.proofs.head.Pieces.{and_then, at_most}
use Rattle.line_listing.proofs.summary.place_line.Goals as goal

pub returns : goal.returns
unfolding S.ends_line
returns c =
    let p0 = c.place_words-a.ensures in
    let p1 = c.place_ordered-b.ensures in
    let p2 = c.place_words.ensures in at_most (omega (arith, c.requires.0, c.requires.1))
    (and_then (and_then p0 p1 (omega (arith, c.requires.0, c.requires.1))) p2 (omega (arith, c.requires.0, c.requires.1)))
