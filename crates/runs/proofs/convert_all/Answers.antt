-- `runs::convert_all` meets its contract: the stamps before place i are put. Assumes nothing.
use native.Mathlib.Omega.{arith}
use Rattle.leap_table.specs.rows.Announced.{rows_of}
use Rattle.runs.proofs.by_day.Days.{no_day_right}
use Rattle.runs.proofs.by_formula.Puts.{putting_starts, few, has-places, has-byte, putting_goes, putting_ends}
use Rattle.runs.proofs.convert_all.Goals as goal

pub loop-i-init : goal.loop-i-init
loop-i-init c =
    let a = c.args in
    (putting_starts, no_day_right (rows_of a.table.now) _ c.no_day-hand.ensures)

pub convert_stamp-done-requires : goal.convert_stamp-done-requires
convert_stamp-done-requires c = (has-places c.loop-i.invariant.0 c.requires.0 c.loop-i-test.true, (c.loop-i.invariant.1, c.requires.1))

pub bounds-numbers-i : goal.bounds-numbers-i
bounds-numbers-i c = has-byte c.loop-i.invariant.0 c.requires.0 c.loop-i-test.true

pub overflow_add-refused : goal.overflow_add-refused
overflow_add-refused c = record {
  fits = omega (arith, c.loop-i-test.true, few c.loop-i.invariant.0, c.requires.0.first, c.one_if_refused-refused.ensures.1);
}

pub loop-i-preserved : goal.loop-i-preserved
loop-i-preserved c =
    let done = c.convert_stamp-done.ensures in
    (putting_goes c.loop-i.invariant.0 c.loop-i-test.true done.0 c.one_if_refused-refused.ensures.0, done.1)

pub returns : goal.returns
returns c = putting_ends c.loop-i.invariant.0 (omega (arith, c.loop-i-test.false))
