-- `summary::is_positive` meets its contract. Assumes nothing.
use Rattle.std.proofs.Common.{refl}
use lib.Ieee.{of_bits, lt}
use Rattle.julian.specs.JulianDate.{rounded_sum}
use Rattle.line_listing.proofs.summary.is_positive.Goals as goal

pub returns : goal.returns
unfolding lt of_bits rounded_sum
returns c = refl
