-- `line_listing::order::copy_cells` meets its contract. Assumes nothing.
use native.Mathlib.Omega.{arith}
use Rattle.line_listing.proofs.order.Loops.{copying_starts, copying_goes, copying_ends}
use Rattle.line_listing.proofs.order.copy_cells.Goals as goal

pub loop-j-init : goal.loop-j-init
loop-j-init c = let a = c.args in copying_starts a.from.now a.to.now a.many

pub loop-j-preserved : goal.loop-j-preserved
loop-j-preserved c =
    let a = c.args in
    copying_goes a.from.now a.to.now c.loop-j.to c.put_nth_u32.new.out a.many c.loop-j.j c.nth_u32-p.result c.requires c.loop-j.invariant
    c.loop-j-test.true c.nth_u32-p.ensures (omega (arith, c.nth_u32-p.type_inv)) c.put_nth_u32.ensures

pub returns : goal.returns
returns c =
    let a = c.args in
    copying_ends a.from.now a.many a.to.now c.loop-j.to c.loop-j.j c.loop-j.invariant c.loop-j-test.false
