-- `julian::exact_sum` meets its contract. Assumes nothing.
use mathlib.Core.Path.{refl}
use Rattle.julian.specs.Equality.{exact_sum, two_sum_error}
use Rattle.julian.proofs.exact_sum.Goals as goal

pub returns : goal.returns
unfolding exact_sum two_sum_error
returns c = refl
