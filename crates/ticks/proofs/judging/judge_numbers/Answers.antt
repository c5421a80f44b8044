-- `ticks::judging::judge_numbers` meets its contract: of numbers that rise the last is the largest. Assumes nothing.
use native.Mathlib.Omega.{arith}
use mathlib.Core.Path.{sym, ◌∙◌}
use mathlib.Core.Bool.{true, false}
use Rattle.refusals.specs.Refusal.{refusal_number}
use Rattle.refusals.specs.Outcome.{number_said}
use Rattle.ticks.specs.judging.Refusing.{number_at, numbers_in}
use Rattle.ticks.proofs.judging.ByLast.{by_tests, last-tick-large, last-milli-large, nothing-wrong}
use Rattle.ticks.proofs.judging.judge_numbers.Goals as goal

pub returns-then-both_small : goal.returns-then-both_small
unfolding number_said refusal_number
returns-then-both_small c =
    let n = numbers_in c.args.passes.now in
    by_tests n (number_at c.args.passes.now) (number_at c.args.millis.now) true false (sym c.both_small.ensures ∙ c.if-both_small.true)
    (sym c.both_rising.ensures ∙ c.if-not-both_rising.true)

pub returns-then-not-both_rising : goal.returns-then-not-both_rising
unfolding number_said refusal_number
returns-then-not-both_rising c =
    let n = numbers_in c.args.passes.now in
    by_tests n (number_at c.args.passes.now) (number_at c.args.millis.now) false false (sym c.both_small.ensures ∙ c.if-both_small.false)
    (sym c.both_rising.ensures ∙ c.if-not-both_rising.true)

pub returns-then-number_at-ge-LIMIT : goal.returns-then-number_at-ge-LIMIT
unfolding number_said refusal_number
returns-then-number_at-ge-LIMIT c =
    let n = numbers_in c.args.passes.now in
    last-tick-large n (number_at c.args.passes.now) (number_at c.args.millis.now) c.requires.0
    (omega (arith, c.number_at.ensures, c.if-number_at-ge-LIMIT.true))

pub returns-then-number_at-ge-LIMIT-2 : goal.returns-then-number_at-ge-LIMIT-2
unfolding number_said refusal_number
returns-then-number_at-ge-LIMIT-2 c =
    let n = numbers_in c.args.passes.now in
    last-milli-large n (number_at c.args.passes.now) (number_at c.args.millis.now) c.requires.0
    (omega (arith, c.number_at-2.ensures, c.if-number_at-ge-LIMIT-2.true))

pub returns : goal.returns
unfolding number_said
returns c =
    let n = numbers_in c.args.passes.now in
    nothing-wrong n (number_at c.args.passes.now) (number_at c.args.millis.now) c.requires.0
    (sym c.both_rising.ensures ∙ c.if-not-both_rising.false)
    (omega (arith, c.number_at.ensures, c.if-number_at-ge-LIMIT.false))
    (omega (arith, c.number_at-2.ensures, c.if-number_at-ge-LIMIT-2.false))
