-- `ticks::judging::all_inside` meets its contract. Assumes nothing.
use Rattle.ticks.specs.judging.Refusing.{number_at, numbers_in}
use Rattle.ticks.proofs.judging.Checks.{none_yet, inside-more, inside-stops-low, inside-stops-high, inside-ends}
use Rattle.ticks.proofs.judging.all_inside.Goals as goal
use Rattle.ticks.proofs.judging.all_inside.Goals.{then-t-first-via-then-t-first, then-t-first-via-else-t-first+then-last-t}

pub loop-i-init : goal.loop-i-init
loop-i-init c = none_yet _

pub returns-then-t-first : goal.returns-then-t-first
returns-then-t-first c =
    let f = number_at c.args.s.now in
    let n = numbers_in c.args.s.now in
    elim c.then-t-first.branch [
      | then-t-first-via-then-t-first w ↦ inside-stops-low f n c.loop-i.i c.number_at-t.result c.number_at-t.ensures
          c.args.first c.args.last c.loop-i-test.true w.if-t-first.true
      | then-t-first-via-else-t-first+then-last-t w ↦ inside-stops-high f n c.loop-i.i c.number_at-t.result
          c.number_at-t.ensures c.args.first c.args.last c.loop-i-test.true w.if-t-first.false w.if-last-t.true
    ]

pub loop-i-preserved : goal.loop-i-preserved
loop-i-preserved c =
    let f = number_at c.args.s.now in
    let n = numbers_in c.args.s.now in
    inside-more f n c.loop-i.i c.number_at-t.result c.number_at-t.ensures c.args.first c.args.last c.loop-i.invariant
    c.if-t-first.false c.if-last-t.false

pub returns : goal.returns
returns c =
    let f = number_at c.args.s.now in
    let n = numbers_in c.args.s.now in
    inside-ends f n c.loop-i.i c.args.first c.args.last c.loop-i.auto.i-end c.loop-i-test.false c.loop-i.invariant
