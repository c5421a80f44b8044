-- `ticks::neighbour` meets its contract: wherever it looks, what it finds is the last pass not after the tick. Assumes nothing.
use Prim.Native.Nat.{ℕ, ◌+◌, ◌<◌}
use native.Mathlib.Omega.{arith}
use mathlib.Core.Path.{◌≡◌, subst}
use Rattle.ticks.specs.judging.Refusing.{number_at}
use Rattle.ticks.proofs.Search.{last-only, found-last, found_below}
use Rattle.ticks.proofs.neighbour.Goals as goal

pub returns-then-t-number_at : goal.returns-then-t-number_at
returns-then-t-number_at c =
    found_below (number_at c.args.passes.now.ticks.now) c.args.t c.args.passes.now.k c.requires.rises 0 c.args.j c.last_not_after.result c.requires.near
    (omega (arith, c.number_at.ensures, c.if-t-number_at.true)) c.last_not_after.ensures

pub returns-then-passes-j-lt2 : goal.returns-then-passes-j-lt2
returns-then-passes-j-lt2 c =
    found-last (number_at c.args.passes.now.ticks.now) c.args.t c.args.passes.now.k c.requires.rises c.args.j c.last_not_after-then-passes-j-lt2.result
    c.last_not_after-then-passes-j-lt2.ensures

pub returns-then-t-number_at-2 : goal.returns-then-t-number_at-2
returns-then-t-number_at-2 c =
    last-only (number_at c.args.passes.now.ticks.now) c.args.t c.args.passes.now.k c.requires.rises c.args.j c.requires.near
    (omega (arith, c.number_at.ensures, c.if-t-number_at.false))
    (λ w. omega (arith, c.number_at-2.ensures, c.if-t-number_at-2.true))

pub returns-then-t-number_at-3 : goal.returns-then-t-number_at-3
returns-then-t-number_at-3 c =
    let e : c.args.j + 2 ≡ c.args.j + 1 + 1 = omega arith in
    last-only (number_at c.args.passes.now.ticks.now) c.args.t c.args.passes.now.k c.requires.rises (c.args.j + 1)
    (omega (arith, c.if-passes-j-lt2.false))
    (omega (arith, c.number_at-2.ensures, c.if-t-number_at-2.false))
    (λ w. subst (λ (x : ℕ). c.args.t < number_at c.args.passes.now.ticks.now x) e (omega (arith, c.number_at-3.ensures, c.if-t-number_at-3.true)))

pub returns : goal.returns
returns c =
    found-last (number_at c.args.passes.now.ticks.now) c.args.t c.args.passes.now.k c.requires.rises _ c.last_not_after-2.result c.last_not_after-2.ensures
