-- `words::whole` meets its contract: the word, and the number behind it. Assumes nothing.
use native.Mathlib.Omega.{arith}
use Rattle.numerals.proofs.digits.Places.{then}
use Rattle.reasons.proofs.sentences.Placing.{placed-length, decimal-placed}
use Rattle.reasons.proofs.sentences.words.whole.Goals as goal

pub returns : goal.returns
returns c =
    let p = c.place_bytes-next.ensures.written (omega (arith, c.requires)) in
    let l = placed-length p (omega (arith, c.requires)) in
    let q = decimal-placed c.place_decimal.ensures.0 c.place_decimal.ensures.1 (omega (arith, p.ends, l, c.requires)) in
    record { placed = then p q.0 (omega (arith, p.ends, q.1, c.requires)); upper_bound = omega (arith, p.ends, q.1, c.requires) }
