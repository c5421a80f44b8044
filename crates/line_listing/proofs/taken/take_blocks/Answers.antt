-- `line_listing::taken::take_blocks` meets its contract. Assumes nothing.
use Rattle.std.proofs.Common.{◌≡◌, ◌+◌, ◌-◌, ◌*◌, length, ap, ◌∙◌, arith, length-drop}
use borrow.Rule.Slice.PartMut.{mid_len}
use Rattle.leap_table.specs.rows.Announced.{rows_of}
use Rattle.line_listing.specs.taken.Asked.{block_run}
use Rattle.line_listing.proofs.taken.Blocks.{whole-rest, rest-taken, rest-not-taken}
use Rattle.line_listing.proofs.taken.Steps.{taken_none, taken-all, taken_refused, taken-on, step_fits}
use Rattle.line_listing.proofs.taken.take_blocks.Goals as goal

pub loop-at-init : goal.loop-at-init
loop-at-init c = taken_none _ _ c.requires.known _ _ _ _

pub returns-in_default : goal.returns-in_default
returns-in_default c =
    let l = c.loop-at in
    let t = rest-not-taken c.args.run.now l.at _ c.first_block.ensures c.in_default.not-Ok in
    taken_refused _ _ c.requires.known _ _ _ _ _ _ _ _ _ _ l.invariant c.loop-at-test.true t.0 t.1

pub overflow_mul-high : goal.overflow_mul-high
overflow_mul-high c =
    let l = c.loop-at in
    let f = step_fits _ _ c.requires.known _ _ _ _ _ _ _ _ _ _ l.invariant c.loop-at-test.true _
    (rest-taken c.args.run.now l.at _ c.first_block.ensures _ c.in-Ok.is) c.requires in
    omega (arith, f.few)

pub overflow_add-high : goal.overflow_add-high
overflow_add-high c =
    let l = c.loop-at in
    let f = step_fits _ _ c.requires.known _ _ _ _ _ _ _ _ _ _ l.invariant c.loop-at-test.true _
    (rest-taken c.args.run.now l.at _ c.first_block.ensures _ c.in-Ok.is) c.requires in
    omega (arith, f.places1)

pub overflow_add-next : goal.overflow_add-next
overflow_add-next c =
    let l = c.loop-at in
    let f = step_fits _ _ c.requires.known _ _ _ _ _ _ _ _ _ _ l.invariant c.loop-at-test.true _
    (rest-taken c.args.run.now l.at _ c.first_block.ensures _ c.in-Ok.is) c.requires in
    omega (arith, f.bytes)

pub slice_bounds-take_block-end : goal.slice_bounds-take_block-end
slice_bounds-take_block-end c =
    let l = c.loop-at in
    let f = step_fits _ _ c.requires.known _ _ _ _ _ _ _ _ _ _ l.invariant c.loop-at-test.true _
    (rest-taken c.args.run.now l.at _ c.first_block.ensures _ c.in-Ok.is) c.requires in
    omega (arith, f.places1)

pub slice_bounds-take_block-end-in-loop-at : goal.slice_bounds-take_block-end-in-loop-at
slice_bounds-take_block-end-in-loop-at c =
    let l = c.loop-at in
    let f = step_fits _ _ c.requires.known _ _ _ _ _ _ _ _ _ _ l.invariant c.loop-at-test.true _
    (rest-taken c.args.run.now l.at _ c.first_block.ensures _ c.in-Ok.is) c.requires in
    omega (arith, f.places2)

pub slice_bounds-take_block-end-in-loop-at-2 : goal.slice_bounds-take_block-end-in-loop-at-2
slice_bounds-take_block-end-in-loop-at-2 c =
    let l = c.loop-at in
    let f = step_fits _ _ c.requires.known _ _ _ _ _ _ _ _ _ _ l.invariant c.loop-at-test.true _
    (rest-taken c.args.run.now l.at _ c.first_block.ensures _ c.in-Ok.is) c.requires in
    omega (arith, f.bytes)

pub take_block-refused-requires : goal.take_block-refused-requires
take_block-refused-requires c =
    let s = c.args.run.now in
    let l = c.loop-at in
    let f = step_fits _ _ c.requires.known _ _ _ _ _ _ _ _ _ _ l.invariant c.loop-at-test.true _
    (rest-taken s l.at _ c.first_block.ensures _ c.in-Ok.is) c.requires in
    record {
      known = c.requires.known;
      few = f.few;
      there = omega (arith, ap length (whole-rest s l.at), length-drop l.at s, f.there);
      places1 = mid_len _ _ _ f.places1 ∙ (let w : 8 * l.place + 8 * c.in-Ok.n - 8 * l.place ≡ 8 * c.in-Ok.n = omega arith in w);
      places2 = mid_len _ _ _ f.places2 ∙ (let w : 8 * l.place + 8 * c.in-Ok.n - 8 * l.place ≡ 8 * c.in-Ok.n = omega arith in w);
      bytes = mid_len _ _ _ f.bytes ∙ (let w : l.place + c.in-Ok.n - l.place ≡ c.in-Ok.n = omega arith in w);
    }

pub overflow_add-refused : goal.overflow_add-refused
overflow_add-refused c =
    let a = c.args in
    let l = c.loop-at in
    let e = rest-taken a.run.now l.at _ c.first_block.ensures _ c.in-Ok.is in
    let f = step_fits _ _ c.requires.known _ _ _ _ _ _ _ _ _ _ l.invariant c.loop-at-test.true _ e c.requires in
    let d = c.take_block-refused.ensures ∙ ap (block_run (rows_of a.table.now) a.scale c.in-Ok.n) (whole-rest a.run.now l.at) in
    omega (arith, (taken-on _ _ c.requires.known _ _ _ _ _ _ _ _ _ _ l.invariant c.loop-at-test.true _ e c.requires _ _ _ _ d).few, f.bytes)

pub overflow_add-at-in-loop-at : goal.overflow_add-at-in-loop-at
overflow_add-at-in-loop-at c =
    let l = c.loop-at in
    let f = step_fits _ _ c.requires.known _ _ _ _ _ _ _ _ _ _ l.invariant c.loop-at-test.true _
    (rest-taken c.args.run.now l.at _ c.first_block.ensures _ c.in-Ok.is) c.requires in
    omega (arith, f.there)

pub loop-at-preserved : goal.loop-at-preserved
loop-at-preserved c =
    let a = c.args in
    let l = c.loop-at in
    taken-on _ _ c.requires.known _ _ _ _ _ _ _ _ _ _ l.invariant c.loop-at-test.true _
    (rest-taken a.run.now l.at _ c.first_block.ensures _ c.in-Ok.is) c.requires _ _ _ _
    (c.take_block-refused.ensures ∙ ap (block_run (rows_of a.table.now) a.scale c.in-Ok.n) (whole-rest a.run.now l.at))

pub returns : goal.returns
returns c =
    taken-all _ _ c.requires.known _ _ _ _ _ _ _ _ _ _ c.loop-at.invariant
    (omega (arith, c.loop-at.invariant.high, c.loop-at-test.false))
