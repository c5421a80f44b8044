-- `listing::surely_shown` meets its contract. Assumes nothing.
use lib.Ieee.{of_bits}
use Rattle.stamps.proofs.LateDates.{from_zero, below-zero}
use Rattle.stamps.proofs.listing.surely_shown.Goals as goal

pub returns-then-sum : goal.returns-then-sum
unfolding of_bits
returns-then-sum c = from_zero c.args.sum c.if-sum.true

pub returns-else-sum : goal.returns-else-sum
unfolding of_bits
returns-else-sum c = below-zero c.args.sum c.if-sum.false
