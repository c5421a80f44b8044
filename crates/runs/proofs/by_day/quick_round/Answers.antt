-- `runs::by_day::quick_round` meets its contract. Assumes nothing.
use Rattle.refusals.proofs.Onward.{went}
use Rattle.utc_scales.specs.UtcTai.{moved, refined}
use Rattle.runs.specs.by_day.Hand.{RightTaiByHand, FindsTai, RightRound, FindsRound}
use Rattle.runs.proofs.by_day.quick_round.Goals as goal

pub returns : goal.returns
unfolding FindsRound RightRound FindsTai RightTaiByHand refined moved
returns c rows right =
    let e = c.in_ok-tai.ensures rows right in
    (went _ e.0, e.1)
