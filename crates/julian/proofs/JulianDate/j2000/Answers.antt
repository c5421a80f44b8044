-- `julian::JulianDate::j2000` meets its contract. Assumes nothing.
use lib.Ieee.{of_bits, round}
use Rattle.constants.specs.Constants.{j2000_jd}
use Rattle.julian.proofs.JulianDate.j2000.Goals as goal

-- `julian::JulianDate::j2000` meets its contract. Assumes nothing.

pub returns : goal.returns
unfolding of_bits round j2000_jd
returns c = c.new.ensures
