-- `head::place_end` meets its contract: nothing, or the block and its refusal. Assumes nothing.
use Rattle.std.proofs.Common.{arith}
use Rattle.line_listing.proofs.head.Pieces.{and_then, in_as, none-placed, not_ended, ended}
use Rattle.line_listing.proofs.head.place_end.Goals as goal

pub returns-then-end-eq0 : goal.returns-then-end-eq0
returns-then-end-eq0 c =
    in_as (not_ended c.args.end c.if-end-eq0.true) (none-placed c.args.dst.now c.args.at 56 (omega (arith, c.requires)))

pub returns : goal.returns
returns c =
    in_as (ended c.args.end c.if-end-eq0.false)
    (and_then c.place_count-next.ensures c.place_count.ensures (omega (arith, c.requires)))
