-- `julian::JulianDate::to_f64` meets its contract. Assumes nothing.
use mathlib.Core.Path.{refl}
use Rattle.julian.specs.JulianDate.{rounded_sum}
use Rattle.julian.proofs.JulianDate.to_f64.Goals as goal

pub returns : goal.returns
unfolding rounded_sum
returns c = refl
