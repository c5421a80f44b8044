-- `line_listing::order::put_lines` meets its contract. Assumes nothing.
use Rattle.std.proofs.Common.{take}
use Rattle.line_up.specs.keep.Cells.{cells}
use Rattle.line_listing.proofs.order.Loops.{starts_fit, listing-starts, one-fits, listing-goes, listing-ends}
use Rattle.line_listing.proofs.order.put_lines.Goals as goal

pub put_starts-k-requires : goal.put_starts-k-requires
put_starts-k-requires c =
    let a = c.args in
    starts_fit a.numbers.now a.end1 a.end2 a.places.now a.many a.out.now c.requires

pub loop-j-init : goal.loop-j-init
loop-j-init c =
    let a = c.args in
    listing-starts a.numbers.now a.end1 a.end2 (take a.many (cells a.places.now)) c.put_starts-k.new.out c.put_starts-k.result

pub put_one-k-requires : goal.put_one-k-requires
put_one-k-requires c =
    let a = c.args in
    one-fits a.numbers.now a.end1 a.end2 a.places.now a.many a.out.now c.requires c.put_starts-k.new.out
    c.put_starts-k.result c.put_starts-k.ensures c.loop-j.out c.loop-j.k c.loop-j.j c.loop-j.invariant c.loop-j-test.true
    c.nth_u32-p.result c.nth_u32-p.ensures c.run_end-to.result c.run_end-to.ensures

pub loop-j-preserved : goal.loop-j-preserved
loop-j-preserved c =
    let a = c.args in
    listing-goes a.numbers.now a.end1 a.end2 a.places.now a.many a.out.now c.requires c.put_starts-k.new.out
    c.put_starts-k.result c.put_starts-k.ensures c.loop-j.out c.loop-j.k c.loop-j.j c.loop-j.invariant c.loop-j-test.true
    c.nth_u32-p.result c.nth_u32-p.ensures c.run_end-to.result c.run_end-to.ensures c.put_one-k.new.out c.put_one-k.result
    c.put_one-k.ensures

pub returns : goal.returns
returns c =
    let a = c.args in
    listing-ends a.numbers.now a.end1 a.end2 a.places.now a.many a.out.now c.requires c.put_starts-k.new.out
    c.put_starts-k.result c.put_starts-k.ensures c.loop-j.out c.loop-j.k c.loop-j.j c.loop-j.invariant c.loop-j-test.false
