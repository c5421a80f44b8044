-- `ticks::judging::all_rising` meets its contract: the loop is one ahead of the numbers that are compared. Assumes nothing.
use native.Mathlib.Omega.{arith}
use mathlib.Core.Path.{◌≡◌, sym, ap, subst, ◌∙◌}
use mathlib.Core.Bool.{true}
use Prim.Native.Nat.{ℕ, ◌+◌, ◌-◌}
use Rattle.ticks.specs.judging.Numbers.{holds_below}
use Rattle.ticks.specs.judging.Refusing.{number_at, numbers_in}
use Rattle.ticks.proofs.judging.Checks.{none_yet, step, rising-more, rising-stops, rising-ends}
use Rattle.ticks.proofs.judging.all_rising.Goals as goal

pub loop-i-init : goal.loop-i-init
loop-i-init c = (none_yet _, c.number_at-before.ensures)

pub returns-then-next-before : goal.returns-then-next-before
returns-then-next-before c =
    let e : c.loop-i.i ≡ c.loop-i.i - 1 + 1 = omega (arith, c.loop-i.auto.i) in
    rising-stops (number_at c.args.s.now) (numbers_in c.args.s.now) (c.loop-i.i - 1) c.loop-i.before c.loop-i.invariant.1 c.number_at-next.result
    (c.number_at-next.ensures ∙ ap (number_at c.args.s.now) e) (omega (arith, c.loop-i.auto.i, c.loop-i-test.true)) c.if-next-before.true

pub loop-i-preserved : goal.loop-i-preserved
loop-i-preserved c =
    let e : c.loop-i.i ≡ c.loop-i.i - 1 + 1 = omega (arith, c.loop-i.auto.i) in
    let d : c.loop-i.i ≡ c.loop-i.i + 1 - 1 = omega arith in (
      subst (λ (x : ℕ). holds_below x (step (number_at c.args.s.now)) ≡ true) (sym e ∙ d)
          (rising-more (number_at c.args.s.now) (numbers_in c.args.s.now) (c.loop-i.i - 1) c.loop-i.before c.loop-i.invariant.1 c.number_at-next.result
          (c.number_at-next.ensures ∙ ap (number_at c.args.s.now) e) c.loop-i.invariant.0 c.if-next-before.false),
      c.number_at-next.ensures ∙ ap (number_at c.args.s.now) d,
    )

pub returns : goal.returns
returns c =
    rising-ends (number_at c.args.s.now) (numbers_in c.args.s.now) (c.loop-i.i - 1) (omega (arith, c.loop-i.auto.i, c.loop-i.auto.i-end, c.requires))
    (omega (arith, c.loop-i.auto.i, c.loop-i-test.false)) c.loop-i.invariant.0
