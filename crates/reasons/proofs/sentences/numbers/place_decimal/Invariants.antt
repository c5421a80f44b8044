-- What is left of the number stands before the digits that are written behind the index. The measure is what is left.
use Rattle.reasons.proofs.sentences.Digits.{Behind}
use Rattle.reasons.proofs.sentences.numbers.place_decimal.Given as goal

abbrev pub invariant-loop-rest : goal.invariant-loop-rest
invariant-loop-rest l = Behind l.fn.n l.rest l.i l.all

abbrev pub decreases-loop-rest : goal.decreases-loop-rest
decreases-loop-rest l = l.rest
