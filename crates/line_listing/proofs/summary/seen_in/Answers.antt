-- `summary::seen_in` meets its contract. Assumes nothing.
use Rattle.line_listing.proofs.summary.Tests.{none_seen, more-seen}
use Rattle.line_listing.proofs.summary.seen_in.Goals as goal

pub loop-i-init : goal.loop-i-init
loop-i-init c = none_seen _ _ _

pub loop-i-preserved : goal.loop-i-preserved
loop-i-preserved c = more-seen _ _ _ _ _ _ _ c.loop-i.invariant c.number_at.ensures c.seen_at-s.ensures
