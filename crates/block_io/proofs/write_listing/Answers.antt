-- `block_io::write_listing` meets its contract: a part that is not the last brings it on by a line at least. Assumes nothing.
use Prim.Native.Nat.{zero-le}
use mathlib.Core.Bool.{false≢true}
use native.Mathlib.Omega.{arith}
use borrow.Author.Rules.{rules}
use Rattle.stamps.proofs.Texts.{room-high}
use Rattle.stamps.proofs.Parts.{part-within, part-brings-on}
use Rattle.block_io.proofs.Counted.{next-within, comes_last}
use Rattle.block_io.proofs.write_listing.Goals as goal

pub loop-reporting-init : goal.loop-reporting-init
loop-reporting-init g c = (zero-le, omega arith)

pub slice_bounds-scratch-end : goal.slice_bounds-scratch-end
slice_bounds-scratch-end g c = (part-within c.next_part_by_rows-part.ensures).0

pub slice_bounds-write_text-end : goal.slice_bounds-write_text-end
slice_bounds-write_text-end g c = (part-within c.next_part_by_rows-part.ensures).1

pub returns-then-write_text-written : goal.returns-then-write_text-written
returns-then-write_text-written g c = record { within = c.loop-reporting.invariant.0; whole = λ e. absurd (false≢true e) }

pub returns-then-part : goal.returns-then-part
returns-then-part g c =
    let p = c.next_part_by_rows-part.ensures in
    let h = c.loop-reporting.invariant.0 in
    record { within = next-within p h; whole = λ e. comes_last p h c.if-part.true }

pub loop-reporting-smaller : goal.loop-reporting-smaller
loop-reporting-smaller g c =
    let on = part-brings-on c.next_part_by_rows-part.ensures (omega (arith, room-high c.args.reporting, c.loop-reporting.invariant.1)) c.if-part.false in
    omega (arith, on.0, on.1)

pub loop-reporting-preserved : goal.loop-reporting-preserved
loop-reporting-preserved g c = (next-within c.next_part_by_rows-part.ensures c.loop-reporting.invariant.0, search rules)
