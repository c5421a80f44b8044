-- `julian::JulianDate::from_julian_year` meets its contract. Assumes nothing.
use lib.Ieee.{of_bits, round}
use Rattle.constants.specs.Constants.{mjd_zero_point, j2000_jd, days_per_julian_year}
use Rattle.julian.specs.JulianYear.{from_julian_year}
use Rattle.julian.proofs.JulianDate.from_julian_year.Goals as goal

pub returns : goal.returns
unfolding from_julian_year mjd_zero_point j2000_jd days_per_julian_year of_bits round
returns c = c.new.ensures
