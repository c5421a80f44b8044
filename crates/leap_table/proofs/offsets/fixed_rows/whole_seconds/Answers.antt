-- `leap_table::offsets::fixed_rows::whole_seconds` meets its contract: the seconds of the rows from 1972 on, counted. Assumes nothing.
use Rattle.std.proofs.Common.{sym}
use Rattle.leap_table.proofs.offsets.Years.{seconds-whole}
use Rattle.leap_table.proofs.offsets.fixed_rows.whole_seconds.Goals as goal

pub returns : goal.returns
returns c = sym (seconds-whole c.args.rows c.requires.0 c.requires.1)
