-- `lines::places_there` meets its contract. Assumes nothing.
use native.Mathlib.Omega.{arith}
use Rattle.std.proofs.Common.{◌≡◌, ◌≤◌, sym, refl, ap, ◌∙◌}
use Rattle.line_listing.specs.lines.Parts.{places_there}
use Rattle.line_listing.proofs.lines.Whole.{place-gone, place-more}
use Rattle.line_listing.proofs.lines.places_there.Goals as goal

pub loop-i-init : goal.loop-i-init
unfolding places_there
loop-i-init c = refl

pub returns-then-nth_u32-stamps : goal.returns-then-nth_u32-stamps
returns-then-nth_u32-stamps c =
    let l = c.loop-i in
    let far : c.args.stamps ≤ c.nth_u32.result = omega (arith, c.if-nth_u32-stamps.true) in
    place-gone _ _ _ l.i _ (omega (arith, c.loop-i-test.true)) (omega (arith, far, c.nth_u32.ensures))

pub loop-i-preserved : goal.loop-i-preserved
loop-i-preserved c = place-more _ _ _ c.loop-i.i _ c.nth_u32.ensures c.loop-i.invariant (omega (arith, c.if-nth_u32-stamps.false))

pub returns : goal.returns
returns c =
    let l = c.loop-i in
    let e : l.i ≡ c.args.count = omega (arith, c.loop-i-test.false) in
    sym l.invariant ∙ ap (places_there _ _ _) e
