-- `ticks::place_all` meets its contract: each tick lies between the first pass and the last, and its millisecond is put in its place. Assumes nothing.
use Prim.Native.Nat.{◌+◌, ◌≤◌}
use native.Mathlib.Omega.{arith}
use mathlib.Core.Path.{ap, ◌∙◌}
use Rattle.ticks.specs.Passes.{millis_at}
use Rattle.ticks.specs.judging.Refusing.{number_at, numbers_in}
use Rattle.ticks.specs.Ticks.{passes_of}
use Rattle.ticks.proofs.Puts.{placing_starts, placing_goes}
use Rattle.ticks.proofs.Neighbours.{still_near, holds, millis-is}
use Rattle.ticks.proofs.place_all.Goals as goal

pub loop-i-init : goal.loop-i-init
loop-i-init c = placing_starts _ _ _

pub millis_between-m-requires : goal.millis_between-m-requires
millis_between-m-requires c =
    let ps = c.args.passes.now.ticks.now in
    let ms = c.args.passes.now.millis.now in
    let k = c.args.passes.now.k in
    let t = c.number_at-t.result in
    let low : number_at ps 0 ≤ t = omega (arith, c.number_at-t.ensures, c.requires.0.low c.loop-i.i c.loop-i-test.true) in
    let high : t ≤ number_at ps (k + 1) = omega (arith, c.number_at-t.ensures, c.requires.0.high c.loop-i.i c.loop-i-test.true) in
    holds ps ms k c.requires.0.passes t low high c.neighbour-j.result c.neighbour-j.ensures

pub loop-i-preserved : goal.loop-i-preserved
loop-i-preserved c =
    let ps = c.args.passes.now.ticks.now in
    let ms = c.args.passes.now.millis.now in
    let k = c.args.passes.now.k in
    let t = c.number_at-t.result in
    let low : number_at ps 0 ≤ t = omega (arith, c.number_at-t.ensures, c.requires.0.low c.loop-i.i c.loop-i-test.true) in
    let high : t ≤ number_at ps (k + 1) = omega (arith, c.number_at-t.ensures, c.requires.0.high c.loop-i.i c.loop-i-test.true) in
    placing_goes _ _ _ _ _ _ _ _ _ (numbers_in c.args.ticks.now) c.loop-i.invariant c.loop-i-test.true c.requires.1
    (still_near ps ms k c.requires.0.passes t low high c.neighbour-j.result c.neighbour-j.ensures)
    (c.millis_between-m.ensures
    ∙ millis-is ps ms k c.requires.0.passes t low high c.neighbour-j.result c.neighbour-j.ensures
    ∙ ap (millis_at (passes_of ps ms)) c.number_at-t.ensures)
    c.put_number.ensures
