-- `words::float` meets its contract: the word, and the float's bits behind it. Assumes nothing.
use native.Mathlib.Omega.{arith}
use mathlib.Core.Path.{ap}
use Rattle.numerals.specs.digits.Hexadecimal.{hex16}
use Rattle.numerals.proofs.digits.Places.{then, placed-as}
use Rattle.reasons.proofs.sentences.Placing.{placed-length}
use Rattle.reasons.proofs.sentences.words.float.Goals as goal

pub hexadecimal-requires : goal.hexadecimal-requires
hexadecimal-requires c =
    let p = c.place_bytes-next.ensures.written (omega (arith, c.requires)) in
    omega (arith, p.ends, placed-length p (omega (arith, c.requires)), c.requires)

pub returns : goal.returns
returns c =
    let p = c.place_bytes-next.ensures.written (omega (arith, c.requires)) in
    let q = placed-as (ap hex16 c.to_bits.ensures) c.hexadecimal.ensures.placed in
    let short = c.hexadecimal.ensures.upper_bound in
    record { placed = then p q (omega (arith, p.ends, short, c.requires)); upper_bound = omega (arith, p.ends, short, c.requires) }
