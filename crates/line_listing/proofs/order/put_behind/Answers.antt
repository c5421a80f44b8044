-- `line_listing::order::put_behind` meets its contract. Assumes nothing.
use native.Mathlib.Omega.{arith}
use Rattle.line_listing.proofs.order.Loops.{putting_starts, putting_found, putting_room, putting_goes, putting_ends}
use Rattle.line_listing.proofs.order.put_behind.Goals as goal

pub loop-i-init : goal.loop-i-init
loop-i-init c = let a = c.args in putting_starts a.numbers.now a.from a.to a.out.now a.k

pub bounds-numbers-i : goal.bounds-numbers-i
bounds-numbers-i c = omega (arith, c.loop-i-test.true, c.requires.high)

pub returns-then-numbers-i-eq0 : goal.returns-then-numbers-i-eq0
returns-then-numbers-i-eq0 c =
    let a = c.args in
    putting_found a.numbers.now a.from a.to a.out.now a.k c.requires c.loop-i.out c.loop-i.i c.loop-i.at c.loop-i.invariant
    c.loop-i-test.true c.if-numbers-i-eq0.true

pub overflow_cast-i : goal.overflow_cast-i
overflow_cast-i c = record { fits = omega (arith, c.loop-i-test.true, c.requires.high, c.requires.small) }

pub overflow_add-at : goal.overflow_add-at
overflow_add-at c =
    let a = c.args in
    record {
      fits = omega (
        arith,
        putting_room a.numbers.now a.from a.to a.out.now a.k c.requires c.loop-i.out c.loop-i.i c.loop-i.at c.loop-i.invariant
            c.loop-i-test.true c.if-numbers-i-eq0.false,
        c.loop-i.invariant.put.len,
        c.well_formed,
      );
    }

pub loop-i-preserved : goal.loop-i-preserved
loop-i-preserved c =
    let a = c.args in
    putting_goes a.numbers.now a.from a.to a.out.now a.k c.requires c.loop-i.out c.loop-i.i c.loop-i.at c.loop-i.invariant
    c.loop-i-test.true c.if-numbers-i-eq0.false c.put_nth_u32.new.out c.put_nth_u32.ensures

pub returns : goal.returns
returns c =
    let a = c.args in
    putting_ends a.numbers.now a.from a.to a.out.now a.k c.requires c.loop-i.out c.loop-i.i c.loop-i.at c.loop-i.invariant
    c.loop-i-test.false
