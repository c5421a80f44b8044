-- `runs::by_formula::offsets::offset_all` meets its contract: the stamps before place i are put. Assumes nothing.
use native.Mathlib.Omega.{arith}
use Rattle.runs.proofs.by_formula.Puts.{putting_starts, few, has-places, has-byte, putting_goes, putting_ends}
use Rattle.runs.proofs.by_formula.offsets.offset_all.Goals as goal

pub loop-i-init : goal.loop-i-init
loop-i-init c = putting_starts

pub offset_stamp-number-requires : goal.offset_stamp-number-requires
offset_stamp-number-requires c =
    let p = c.requires in
    let h = c.loop-i-test.true in
    ((omega (arith, h, p.0.first), omega (arith, h, p.0.second)), (omega (arith, h, p.1), has-places c.loop-i.invariant p.0 h))

pub bounds-numbers-i : goal.bounds-numbers-i
bounds-numbers-i c = has-byte c.loop-i.invariant c.requires.0 c.loop-i-test.true

pub overflow_add-refused : goal.overflow_add-refused
overflow_add-refused c = record {
  fits = omega (arith, c.loop-i-test.true, few c.loop-i.invariant, c.requires.0.first, c.one_if_refused-refused.ensures.1);
}

pub loop-i-preserved : goal.loop-i-preserved
loop-i-preserved c =
    putting_goes c.loop-i.invariant c.loop-i-test.true c.offset_stamp-number.ensures c.one_if_refused-refused.ensures.0

pub returns : goal.returns
returns c = putting_ends c.loop-i.invariant (omega (arith, c.loop-i-test.false))
