-- `listing::one_if_early` meets its contract. Assumes nothing.
use mathlib.Core.Bool.{true, false}
use native.Mathlib.Omega.{arith}
use Rattle.stamps.proofs.Counts.{day-test}
use Rattle.stamps.proofs.listing.one_if_early.Goals as goal

pub returns-then-day-ltminus31738 : goal.returns-then-day-ltminus31738
returns-then-day-ltminus31738 c = (day-test _ true c.ranges.day c.if-day-ltminus31738.true, omega arith)

pub returns-else-day-ltminus31738 : goal.returns-else-day-ltminus31738
returns-else-day-ltminus31738 c = (day-test _ false c.ranges.day c.if-day-ltminus31738.false, omega arith)
