-- `summary::place_millis` meets its contract. Assumes nothing.
use Rattle.std.proofs.Common.{◌%◌, arith}
use Rattle.line_listing.specs.summary.Summary as S
use Rattle.line_listing.proofs.head.Pieces.{and_then, at_most}
use Rattle.line_listing.proofs.summary.Tests as X
use Rattle.line_listing.proofs.summary.place_millis.Goals as goal

pub returns : goal.returns
unfolding S.span_by
returns c =
    let p0 = c.place_count-a.ensures in
    let p1 = X.six-placed (c.args.m % 1000) _ c.thousandths-all.ensures c.place_words.ensures
    in (at_most (omega (arith, c.requires)) (and_then p0 p1 (omega (arith, c.requires))))
