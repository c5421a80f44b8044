-- `summary::place_if` meets its contract. Assumes nothing.
use Rattle.std.proofs.Common.{arith}
use Rattle.line_listing.proofs.head.Pieces.{in_as, none-placed}
use Rattle.line_listing.proofs.summary.Pieces as Y
use Rattle.line_listing.proofs.summary.place_if.Goals as goal

pub returns-then-bit-eq1 : goal.returns-then-bit-eq1
returns-then-bit-eq1 c =
    in_as (Y.bit_set c.args.bit _ c.if-bit-eq1.true) c.place_words.ensures

pub returns : goal.returns
returns c =
    in_as (Y.bit_not_set c.args.bit _ c.if-bit-eq1.false) (none-placed c.args.dst.now c.args.at _ (omega (arith, c.requires)))
