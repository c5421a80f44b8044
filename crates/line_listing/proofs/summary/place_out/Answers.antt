-- `summary::place_out` meets its contract. Assumes nothing.
use Rattle.std.proofs.Common.{arith}
use Rattle.line_listing.proofs.head.Pieces.{and_then, in_as, at_most, none-placed}
use Rattle.line_listing.proofs.summary.Pieces as Y
use Rattle.line_listing.proofs.summary.place_out.Goals as goal

pub returns-then-out-eq0 : goal.returns-then-out-eq0
returns-then-out-eq0 c =
    in_as (Y.none_out _ c.args.out c.if-out-eq0.true) (none-placed c.args.dst.now c.args.at 61 (omega (arith, c.requires.1)))

pub returns : goal.returns
returns c =
    let p0 = c.place_words-a.ensures in
    let p1 = c.place_count-b.ensures in
    let p2 = c.place_count-c.ensures in
    let p3 = c.place_words.ensures in in_as (Y.some_out _ c.args.out c.if-out-eq0.false)
    (at_most (omega (arith, c.requires.0, c.requires.1))
    (and_then (and_then (and_then p0 p1 (omega (arith, c.requires.0, c.requires.1))) p2 (omega (arith, c.requires.0, c.requires.1))) p3
    (omega (arith, c.requires.0, c.requires.1))))
