-- `utc::shown::half_even::in_whole` meets its contract. Assumes nothing.
use mathlib.Core.Path.{sym, ◌∙◌}
use mathlib.Core.Bool.{true, false}
use Rattle.time_of_day.proofs.EvenSteps.{whole-test}
use Rattle.utc.proofs.shown.half_even.in_whole.Goals as goal

pub returns-then-worth : goal.returns-then-worth
returns-then-worth c =
    c.whole_seconds.ensures ∙ sym
    (whole-test c.args.fraction c.args.leap c.args.units c.worth.result true c.requires c.worth.ensures
    c.if-worth.true)

pub returns : goal.returns
returns c =
    sym (whole-test c.args.fraction c.args.leap c.args.units c.worth.result false c.requires c.worth.ensures
    c.if-worth.false)
