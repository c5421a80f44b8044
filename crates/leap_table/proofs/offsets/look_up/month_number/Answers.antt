-- `leap_table::offsets::look_up::month_number` meets its contract.
-- Assumes nothing.
use Rattle.leap_table.proofs.offsets.Month.{negative, counted}
use Rattle.leap_table.proofs.offsets.look_up.month_number.Goals as goal

pub returns-then-year-lt0 : goal.returns-then-year-lt0
returns-then-year-lt0 c = negative c.args.year c.args.month c.ranges.year c.if-year-lt0.true

pub returns : goal.returns
returns c = counted c.args.year c.args.month c.ranges.year c.if-year-lt0.false
