-- What was counted, and what lies behind it, is the whole. Assumes nothing.
use Rattle.std.proofs.Common.{◌-◌, length}
use Rattle.line_listing.proofs.taken.Blocks.{Counted}
use Rattle.line_listing.proofs.taken.run_size.Given as goal

abbrev pub invariant-loop-at : goal.invariant-loop-at
invariant-loop-at l = Counted l.run l.at l.stamps l.blocks

abbrev pub decreases-loop-at : goal.decreases-loop-at
decreases-loop-at l = length l.run - l.at
