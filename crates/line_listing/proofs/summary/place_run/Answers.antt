-- `summary::place_run` meets its contract. Assumes nothing.
use Rattle.std.proofs.Common.{arith}
use Rattle.line_listing.proofs.head.Pieces.{and_then, in_as, at_most, none-placed}
use Rattle.line_listing.proofs.summary.Tests as X
use Rattle.line_listing.proofs.summary.Pieces as Y
use Rattle.line_listing.proofs.summary.place_run.Goals as goal

pub returns-then-not-run : goal.returns-then-not-run
returns-then-not-run c =
    in_as (Y.run-not-named _ _ c.args.run _ _ _ _ _ (X.was_not c.args.run.named c.if-not-run.true))
    (none-placed c.args.dst.now c.args.at 164 (omega (arith, c.requires.2)))

pub returns : goal.returns
returns c =
    let p0 = c.place_line-next.ensures in
    let p1 = c.place_out.ensures in in_as
    (Y.run-named _ _ c.args.run _ _ _ _ _ _ _ (X.was c.args.run.named c.if-not-run.false) c.ends_of-ends.ensures
    c.seen_in-out.ensures.seen) (at_most (omega (arith, c.requires.0, c.requires.2))
    (and_then p0 p1 (omega (arith, c.requires.0, c.requires.2))))
