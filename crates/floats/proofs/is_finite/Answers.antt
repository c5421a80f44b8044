-- `floats::is_finite` meets its contract: only a finite float less itself is zero.
use lib.Ieee.{of_bits}
use Rattle.floats.proofs.FiniteTest.{less-itself}
use Rattle.floats.proofs.is_finite.Goals as goal

pub returns : goal.returns
unfolding of_bits
returns c = less-itself c.args.x
