-- `check_julian_range` meets its contract. Assumes nothing.
use Rattle.julian.proofs.day_number.Steps.{from-min, below-min}
use Rattle.julian.proofs.day_number.check_julian_range.Goals as goal

pub returns-then-dj : goal.returns-then-dj
returns-then-dj c = from-min c.args.dj c.if-dj.true

pub returns-else-dj : goal.returns-else-dj
returns-else-dj c = below-min c.args.dj c.if-dj.false
