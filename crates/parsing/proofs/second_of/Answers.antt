-- `second_of` meets its contract: each power of the table is a float. Assumes nothing.
use native.Mathlib.Nat.{zero-add}
use native.Mathlib.Omega.{arith}
use mathlib.Core.Path.{ap, ◌∙◌}
use lib.Ieee.{binary64, of_int, of_bits, round, div}
use lib.IntN.{pos}
use Rattle.parsing.specs.Judging.{quotient}
use Rattle.parsing.proofs.Seconds.{values_from, value-at, power}
use Rattle.parsing.proofs.second_of.Goals as goal

pub returns : goal.returns
unfolding quotient values_from power round of_bits
returns c =
    ap (div binary64 (of_int binary64 (pos c.args.whole)))
    (value-at power 14 0 c.args.places _ (omega arith) ∙ ap power (zero-add c.args.places))
