-- What `block_io::write_listing` keeps from part to part: the line comes no further than the last, and the scratch keeps its length. The measure is the number
-- of
-- lines that can be left, of which each part but the last takes one at least.
use Rattle.std.proofs.Common.{length, ◌-◌, ◌≡◌, ◌≤◌}
use Rattle.stamps.specs.Block.{block_of}
use Rattle.stamps.specs.Parts.{lines_in}
use Rattle.block_io.proofs.write_listing.Given as goal

abbrev pub invariant-loop-reporting : goal.invariant-loop-reporting
invariant-loop-reporting g l = (l.line ≤ lines_in (block_of l.block)) × (64 ≡ length l.scratch)

abbrev pub decreases-loop-reporting : goal.decreases-loop-reporting
decreases-loop-reporting g l = 4001 - l.line
