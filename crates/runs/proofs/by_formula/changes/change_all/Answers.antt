-- `runs::by_formula::changes::change_all` meets its contract: the stamps before place i are put. Assumes nothing.
use native.Mathlib.Omega.{arith}
use Rattle.runs.proofs.by_formula.Puts.{putting_starts, few, has-places, has-byte, putting_goes, putting_ends}
use Rattle.runs.proofs.by_formula.changes.change_all.Goals as goal

pub loop-i-init : goal.loop-i-init
loop-i-init c = putting_starts

pub change_stamp-number-requires : goal.change_stamp-number-requires
change_stamp-number-requires c =
    let p = c.requires in
    let h = c.loop-i-test.true in
    ((omega (arith, h, p.first), omega (arith, h, p.second)), has-places c.loop-i.invariant p h)

pub bounds-numbers-i : goal.bounds-numbers-i
bounds-numbers-i c = has-byte c.loop-i.invariant c.requires c.loop-i-test.true

pub overflow_add-refused : goal.overflow_add-refused
overflow_add-refused c = record {
  fits = omega (arith, c.loop-i-test.true, few c.loop-i.invariant, c.requires.first, c.one_if_refused-refused.ensures.1);
}

pub loop-i-preserved : goal.loop-i-preserved
loop-i-preserved c =
    putting_goes c.loop-i.invariant c.loop-i-test.true c.change_stamp-number.ensures c.one_if_refused-refused.ensures.0

pub returns : goal.returns
returns c = putting_ends c.loop-i.invariant (omega (arith, c.loop-i-test.false))
