-- `runs::by_day::quick_utc` meets its contract: three rounds. Assumes nothing.
use Rattle.std.proofs.Common.{sym, ap, ◌∙◌}
use Rattle.refusals.specs.Outcome.{answer}
use Rattle.runs.specs.by_day.Hand.{RightRound, FindsRound, RightUtcByHand, FindsUtc}
use Rattle.runs.proofs.by_day.Days.{utc-by-rounds}
use Rattle.runs.proofs.by_day.quick_utc.Goals as goal

pub returns : goal.returns
unfolding FindsUtc RightUtcByHand FindsRound RightRound
returns c rows right =
    let a = c.in_ok-one.ensures rows right in
    let b = c.in_ok-two.ensures rows right in
    let d = c.in_ok-three.ensures rows right in
    utc-by-rounds rows c.args.big c.args.small c.in_ok-one.one c.in_ok-two.two c.in_ok-three.three a.0 b.0 d.0 a.1
    ∙ ap answer (sym c.new.ensures)
