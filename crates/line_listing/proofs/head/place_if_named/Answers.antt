-- `head::place_if_named` meets its contract. Assumes nothing.
use Rattle.std.proofs.Common.{arith}
use Rattle.line_listing.proofs.head.Pieces.{in_as, none-placed, has-line, no_line}
use Rattle.line_listing.proofs.head.place_if_named.Goals as goal

pub returns-then-end : goal.returns-then-end
returns-then-end c =
    in_as (has-line _ c.args.end _ _ _ _ _ c.if-end.true) c.place_run.ensures

pub returns : goal.returns
returns c =
    in_as (no_line _ c.args.end _ _ _ _ _ c.if-end.false) (none-placed c.args.dst.now c.args.at 172 (omega (arith, c.requires.2)))
