-- `utc_scales::days::mjd_of` meets its contract. Assumes nothing.
use mathlib.Core.Path.{ap}
use lib.Ieee.{binary64, of_int}
use Rattle.utc_scales.proofs.days.Midnights.{less-fits, less-read, less-held}
use Rattle.utc_scales.proofs.days.mjd_of.Goals as goal

pub overflow_sub-result : goal.overflow_sub-result
overflow_sub-result c = less-fits c.args.day c.ranges.day c.requires

pub int_to_float-result : goal.int_to_float-result
int_to_float-result c = less-held c.args.day c.ranges.day c.requires

pub returns : goal.returns
returns c = ap (of_int binary64) (less-read c.args.day c.ranges.day c.requires)
