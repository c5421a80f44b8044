-- `runs::change_all` meets its contract: the stamps before place i are put. Assumes nothing.
use native.Mathlib.Omega.{arith}
use Rattle.std.proofs.Common.{[]}
use Rattle.runs.proofs.by_formula.Puts.{putting_starts, few, has-places, has-byte, putting_goes, putting_ends}
use Rattle.runs.proofs.change_all.Goals as goal

pub loop-i-init : goal.loop-i-init
loop-i-init c rows = putting_starts

pub change_stamp-number-requires : goal.change_stamp-number-requires
change_stamp-number-requires c = (has-places (c.loop-i.invariant []) c.requires.0 c.loop-i-test.true, c.requires.1)

pub bounds-numbers-i : goal.bounds-numbers-i
bounds-numbers-i c = has-byte (c.loop-i.invariant []) c.requires.0 c.loop-i-test.true

pub overflow_add-refused : goal.overflow_add-refused
overflow_add-refused c = record {
  fits = omega (arith, c.loop-i-test.true, few (c.loop-i.invariant []), c.requires.0.first, c.one_if_refused-refused.ensures.1);
}

pub loop-i-preserved : goal.loop-i-preserved
loop-i-preserved c rows =
    putting_goes (c.loop-i.invariant rows) c.loop-i-test.true (c.change_stamp-number.ensures rows) c.one_if_refused-refused.ensures.0

pub returns : goal.returns
returns c rows = putting_ends (c.loop-i.invariant rows) (omega (arith, c.loop-i-test.false))
