-- `julian::JulianDate::to_julian_year` meets its contract. Assumes nothing.
use mathlib.Core.Path.{refl}
use lib.Ieee.{of_bits, round}
use Rattle.constants.specs.Constants.{j2000_jd, days_per_julian_year}
use Rattle.julian.specs.JulianYear.{to_julian_year}
use Rattle.julian.proofs.JulianDate.to_julian_year.Goals as goal

pub returns : goal.returns
unfolding to_julian_year j2000_jd days_per_julian_year of_bits round
returns c = refl
