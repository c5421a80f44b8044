-- `fields::sum_field` meets its contract: the sum is from one end of the range to the other, or beyond one of them. Assumes nothing.
use lib.Ieee.{of_bits, le, neg}
use Rattle.reasons.proofs.FieldTests.{sum-passes, sum_low, sum-high}
use Rattle.reasons.proofs.fields.sum_field.Goals.{else-sum-via-then-sum+else-sum-2, else-sum-via-else-sum}
use Rattle.reasons.proofs.fields.sum_field.Goals as goal

pub returns-then-sum-2 : goal.returns-then-sum-2
unfolding of_bits le neg
returns-then-sum-2 c = sum-passes _ _ c.if-sum.true c.if-sum-2.true

pub returns : goal.returns
unfolding of_bits le neg
returns c =
    elim c.else-sum.branch [
      | else-sum-via-then-sum+else-sum-2 w ↦ sum-high _ _ w.if-sum.true w.if-sum-2.false
      | else-sum-via-else-sum w ↦ sum_low _ _ w.if-sum.false
    ]
