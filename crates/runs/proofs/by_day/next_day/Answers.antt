-- `runs::by_day::next_day` meets its contract. Assumes nothing.
use mathlib.Core.Bool.{false≢true}
use lib.Ieee.{of_bits, neg, lt}
use Rattle.runs.specs.by_day.Hand.{RightHand}
use Rattle.runs.proofs.by_day.next_day.Goals as goal

pub returns : goal.returns
unfolding RightHand of_bits neg lt
returns c e = absurd (false≢true e)
