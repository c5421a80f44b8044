-- `utc_scales::from_ut1::time_past_leap` meets its contract: the code's numbers are the definition's, bit by bit. Assumes nothing.
use mathlib.Core.Path.{refl}
use lib.Ieee.{round, of_bits}
use Rattle.constants.specs.Constants.{mjd_zero_point, seconds_per_day}
use Rattle.utc_scales.specs.from_ut1.Ut1Utc.{time_past_leap}
use Rattle.utc_scales.proofs.from_ut1.time_past_leap.Goals as goal

pub returns : goal.returns
unfolding time_past_leap mjd_zero_point seconds_per_day round of_bits
returns c = refl
