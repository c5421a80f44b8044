-- `ticks::last_not_after` meets its contract. Assumes nothing.
use Prim.Native.Nat.{ℕ, ◌/◌}
use native.Mathlib.Omega.{arith}
use mathlib.Core.Path.{sym, subst}
use Rattle.ticks.specs.judging.Refusing.{number_at}
use Rattle.ticks.proofs.Search.{Seeking, seek_starts, seek_up, seek_down, seek_ends}
use Rattle.ticks.proofs.last_not_after.Goals as goal
use Rattle.ticks.proofs.last_not_after.Goals.{then-number_at-t, else-number_at-t}

pub loop-left-init : goal.loop-left-init
loop-left-init c = seek_starts (number_at c.args.passes.now) c.args.low c.args.high c.args.t c.requires.order c.requires.from

pub loop-left-preserved : goal.loop-left-preserved
loop-left-preserved c =
    elim c.if-number_at-t.branch [
      | then-number_at-t w ↦ subst (λ (x : ℕ). Seeking (number_at c.args.passes.now) c.args.low c.args.high c.args.t x (c.loop-left.left / 2)) (sym w.from-is)
          (seek_up (number_at c.args.passes.now) c.args.low c.args.high c.args.t c.loop-left.from c.loop-left.left c.loop-left.invariant
          c.loop-left-test.true c.number_at.result c.number_at.ensures (omega (arith, w.if-number_at-t.true)))
      | else-number_at-t w ↦ subst (λ (x : ℕ). Seeking (number_at c.args.passes.now) c.args.low c.args.high c.args.t x (c.loop-left.left / 2)) (sym w.from-is)
          (seek_down (number_at c.args.passes.now) c.args.low c.args.high c.args.t c.loop-left.from c.loop-left.left c.loop-left.invariant
          c.loop-left-test.true c.number_at.result c.number_at.ensures c.requires.rises (omega (arith, w.if-number_at-t.false)))
    ]

pub returns : goal.returns
returns c =
    seek_ends (number_at c.args.passes.now) c.args.low c.args.high c.args.t c.loop-left.from c.loop-left.left c.loop-left.invariant
    (omega (arith, c.loop-left-test.false))
