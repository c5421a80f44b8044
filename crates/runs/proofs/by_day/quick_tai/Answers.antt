-- `runs::by_day::quick_tai` meets its contract. Assumes nothing.
use Rattle.std.proofs.Common.{◌≡◌, true, ap, subst}
use lib.Ieee.{of_bits, lt}
use Rattle.floats.proofs.Laws.{yes}
use Rattle.julian.proofs.day_number.PartsOfDay.{same_float}
use Rattle.runs.specs.by_day.Hand.{RightHand, hand_of, FindsTaiOf, FindsTai}
use Rattle.runs.proofs.by_day.quick_tai.Goals as goal

pub returns-then-small-hand : goal.returns-then-small-hand
unfolding FindsTai FindsTaiOf RightHand hand_of of_bits
returns-then-small-hand c rows right =
    let k = right c.if-hand.true in
    c.tai_in_range.ensures rows k
    (same_float c.args.big c.args.hand.midnight (yes c.well_formed.0.1) k.begins.held c.if-big-hand.true k.begins.late)
    c.if-small.true
    (subst (λ z. lt c.args.small z ≡ true) (ap (λ z. z.top) k.same) c.if-small-hand.true)
