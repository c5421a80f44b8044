-- `summary::place_looks` meets its contract. Assumes nothing.
use Rattle.std.proofs.Common.{arith}
use Rattle.line_listing.specs.summary.Summary as S
use Rattle.line_listing.proofs.head.Pieces.{and_then, at_most}
use Rattle.line_listing.proofs.summary.place_looks.Goals as goal

pub returns : goal.returns
unfolding S.looks_told
returns c =
    let p0 = c.place_if-a.ensures in
    let p1 = c.place_if-b.ensures in
    let p2 = c.place_if-c.ensures in
    let p3 = c.place_if.ensures in at_most (omega (arith, c.requires))
    (and_then (and_then (and_then p0 p1 (omega (arith, c.requires))) p2 (omega (arith, c.requires))) p3 (omega (arith, c.requires)))
