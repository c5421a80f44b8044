-- `head::compose_end` meets its contract: two counts and the line's end. Assumes nothing.
use Rattle.std.proofs.Common.{arith}
use Rattle.line_listing.specs.head.Head.{end_text}
use Rattle.line_listing.proofs.head.Pieces.{and_then, piece}
use Rattle.line_listing.proofs.head.compose_end.Goals as goal

pub returns : goal.returns
unfolding end_text
returns c =
    let a = c.place_count-a.ensures in
    let b = c.place_count-b.ensures in
    let e = piece c.place_bytes.ensures (omega (arith, a.within, b.within, a.long, b.long, c.requires)) in
    and_then (and_then a b (omega (arith, c.requires))) e (omega (arith, a.long, b.long, c.requires))
