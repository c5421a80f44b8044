-- `runs::by_day::no_day` meets its contract. Assumes nothing.
use lib.Ieee.{of_bits, neg}
use Rattle.runs.proofs.by_day.no_day.Goals as goal

pub returns : goal.returns
unfolding of_bits neg
returns c = c.serves_none.ensures
