-- `head::compose` meets its contract: the first line, and one for each run that is named. Assumes nothing.
use Rattle.std.proofs.Common.{◌∙◌, arith}
use Rattle.line_listing.proofs.head.Pieces.{and_then, in_as, piece, one-named, head_is}
use Rattle.line_listing.proofs.head.compose.Goals as goal

pub returns : goal.returns
returns c =
    let a = c.place_count-a.ensures in
    let b = piece c.place_bytes-b.ensures (omega (arith, a.within, a.long, c.requires)) in
    let d = c.place_if_named-c.ensures in
    let e = c.place_if_named-d.ensures in
    let f = c.place_if_named.ensures in
    in_as (head_is c.args.gps c.args.tai c.args.utc _ _ _ c.args.first c.args.second _ _ _ _ _
    c.smaller-end1.ensures.0 c.smaller.ensures.0
    (c.from.ensures ∙ one-named _) (c.from-2.ensures ∙ one-named _) (c.from-3.ensures ∙ one-named _))
    (and_then (and_then (and_then (and_then a b (omega (arith, c.requires))) d (omega (arith, c.requires))) e (omega (arith, c.requires))) f
    (omega (arith, c.requires)))
