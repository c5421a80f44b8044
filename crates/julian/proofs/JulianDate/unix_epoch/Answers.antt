-- `julian::JulianDate::unix_epoch` meets its contract. Assumes nothing.
use lib.Ieee.{of_bits, round}
use Rattle.constants.specs.Constants.{unix_epoch_jd}
use Rattle.julian.proofs.JulianDate.unix_epoch.Goals as goal

pub returns : goal.returns
unfolding of_bits round unix_epoch_jd
returns c = c.new.ensures
