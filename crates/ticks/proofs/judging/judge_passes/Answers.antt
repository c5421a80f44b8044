-- `ticks::judging::judge_passes` meets its contract. Assumes nothing.
use native.Mathlib.Omega.{arith}
use mathlib.Core.Path.{sym, ◌∙◌}
use Rattle.refusals.specs.Refusal.{refusal_number}
use Rattle.refusals.specs.Outcome.{number_said}
use Rattle.ticks.proofs.judging.Ladder.{counted_is, miscounted, by-numbers}
use Rattle.ticks.proofs.judging.judge_passes.Goals as goal

pub returns-then-not-well_counted : goal.returns-then-not-well_counted
unfolding number_said refusal_number
returns-then-not-well_counted c = miscounted c.args.passes.now c.args.millis.now (sym c.well_counted.ensures ∙ c.if-not-well_counted.true)

pub judge_numbers-requires : goal.judge_numbers-requires
judge_numbers-requires c =
    let u = counted_is c.args.passes.now c.args.millis.now (sym c.well_counted.ensures ∙ c.if-not-well_counted.false) in
    (omega (arith, u.two), u.equal)

pub returns : goal.returns
returns c =
    c.judge_numbers.ensures ∙ by-numbers c.args.passes.now c.args.millis.now (sym c.well_counted.ensures ∙ c.if-not-well_counted.false)
