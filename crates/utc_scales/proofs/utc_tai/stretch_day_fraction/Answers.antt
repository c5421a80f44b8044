-- `utc_scales::utc_tai::stretch_day_fraction` meets its contract: the code's numbers are the definition's, bit by bit. Assumes nothing.
use mathlib.Core.Path.{refl}
use lib.Ieee.{round, of_bits}
use Rattle.constants.specs.Constants.{seconds_per_day}
use Rattle.leap_table.specs.offsets.Leap.{drift_rate, leap_amount}
use Rattle.utc_scales.specs.UtcTai.{stretch_day_fraction}
use Rattle.utc_scales.proofs.utc_tai.stretch_day_fraction.Goals as goal

pub returns : goal.returns
unfolding stretch_day_fraction drift_rate leap_amount seconds_per_day round of_bits
returns c = refl
