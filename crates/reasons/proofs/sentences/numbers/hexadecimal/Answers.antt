-- `numbers::hexadecimal` meets its contract: the 16 digits are placed. Assumes nothing.
use native.Mathlib.Omega.{arith}
use mathlib.Core.Path.{ap}
use lib.ListN.{length}
use Rattle.numerals.proofs.digits.Hexadecimal.{hex_length}
use Rattle.numerals.proofs.digits.Places.{placed-as}
use Rattle.reasons.proofs.sentences.numbers.hexadecimal.Goals as goal

pub returns : goal.returns
returns c =
    let long = ap length c.sixteen-all.ensures in
    let few = hex_length c.args.n in
    let p = placed-as c.sixteen-all.ensures (c.place_bytes.ensures.written (omega (arith, long, few, c.requires))) in
    record { placed = p; upper_bound = omega (arith, p.ends, few) }
