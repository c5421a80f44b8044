-- `readings::place_refused` meets its contract: two writes, one after the other. Assumes nothing.
use native.Mathlib.Omega.{arith}
use Rattle.readings.specs.Reading.{reading_words}
use Rattle.numerals.proofs.digits.Places.{then}
use Rattle.reasons.proofs.sentences.Placing.{placed-length, decimal-placed}
use Rattle.readings.proofs.place_refused.Goals as goal

pub returns-clause-placed : goal.returns-clause-placed
unfolding reading_words
returns-clause-placed c =
    let room = c.requires in
    let p1 = c.place_bytes-next.ensures.written (omega arith) in
    let l = placed-length p1 (omega arith) in
    let p2 = decimal-placed c.place_decimal.ensures.0 c.place_decimal.ensures.1 (omega arith) in
    then p1 p2.0 (omega arith)

pub returns-clause-upper_bound : goal.returns-clause-upper_bound
returns-clause-upper_bound c =
    let room = c.requires in
    let p1 = c.place_bytes-next.ensures.written (omega arith) in
    let l = placed-length p1 (omega arith) in
    let p2 = decimal-placed c.place_decimal.ensures.0 c.place_decimal.ensures.1 (omega arith) in
    omega arith
