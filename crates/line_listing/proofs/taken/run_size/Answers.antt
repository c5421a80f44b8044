-- `line_listing::taken::run_size` meets its contract. Assumes nothing.
use Rattle.std.proofs.Common.{arith, ap, ◌∙◌}
use Rattle.line_listing.proofs.taken.Blocks.{none-counted, counted-end, counted-refused, counted-fits, counted-on, rest-taken, rest-refused}
use Rattle.line_listing.proofs.taken.run_size.Goals as goal

pub loop-at-init : goal.loop-at-init
loop-at-init c = none-counted _

pub returns-in-Err : goal.returns-in-Err
returns-in-Err c =
    let t = rest-refused c.args.run.now c.loop-at.at _ c.first_block.ensures _ c.in-Err.is in
    ap (λ (k : _). record { stamps = c.loop-at.stamps; blocks = c.loop-at.blocks; bytes = c.loop-at.at; refused = k }) c.number.ensures
    ∙ counted-refused _ _ _ _ c.loop-at.invariant c.loop-at-test.true _ t

pub overflow_add-stamps : goal.overflow_add-stamps
overflow_add-stamps c =
    let t = rest-taken c.args.run.now c.loop-at.at _ c.first_block.ensures _ c.in-Ok.is in
    let f = counted-fits _ _ _ _ c.loop-at.invariant c.loop-at-test.true _ t in
    omega (arith, f.0, f.1, c.loop-at.invariant.many)

pub overflow_mul-at : goal.overflow_mul-at
overflow_mul-at c =
    let t = rest-taken c.args.run.now c.loop-at.at _ c.first_block.ensures _ c.in-Ok.is in
    let f = counted-fits _ _ _ _ c.loop-at.invariant c.loop-at-test.true _ t in
    omega (arith, f.0)

pub overflow_add-at : goal.overflow_add-at
overflow_add-at c =
    let t = rest-taken c.args.run.now c.loop-at.at _ c.first_block.ensures _ c.in-Ok.is in
    let f = counted-fits _ _ _ _ c.loop-at.invariant c.loop-at-test.true _ t in
    omega (arith, f.0)

pub overflow_add-at-in-Ok : goal.overflow_add-at-in-Ok
overflow_add-at-in-Ok c =
    let t = rest-taken c.args.run.now c.loop-at.at _ c.first_block.ensures _ c.in-Ok.is in
    let f = counted-fits _ _ _ _ c.loop-at.invariant c.loop-at-test.true _ t in
    omega (arith, f.1)

pub loop-at-preserved : goal.loop-at-preserved
loop-at-preserved c =
    let t = rest-taken c.args.run.now c.loop-at.at _ c.first_block.ensures _ c.in-Ok.is in
    counted-on _ _ _ _ c.loop-at.invariant c.loop-at-test.true _ t

pub returns : goal.returns
returns c = counted-end _ _ _ _ c.loop-at.invariant (omega (arith, c.loop-at.invariant.high, c.loop-at-test.false))
