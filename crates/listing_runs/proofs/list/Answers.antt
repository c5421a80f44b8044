-- `listing_runs::list` is safe and ends: a part that is not the last brings it on by a line at least. Assumes nothing.
use borrow.Author.Rules.{rules}
use native.Mathlib.Omega.{arith}
use Rattle.stamps.specs.declared.Reporting.TheVariants.{Numbers}
use Rattle.stamps.proofs.Texts.{room-high}
use Rattle.stamps.proofs.Parts.{part-within, part-brings-on}
use Rattle.listing_runs.proofs.list.Goals as goal

pub slice_bounds-scratch-end : goal.slice_bounds-scratch-end
slice_bounds-scratch-end c = (part-within c.next_part_by_rows-part.ensures).0

pub slice_bounds-write_all-end : goal.slice_bounds-write_all-end
slice_bounds-write_all-end c = (part-within c.next_part_by_rows-part.ensures).1

pub loop-scratch-smaller : goal.loop-scratch-smaller
loop-scratch-smaller c =
    let on = part-brings-on c.next_part_by_rows-part.ensures (omega (arith, room-high Numbers)) c.if-part.false in
    omega (arith, on.0, on.1)

pub loop-scratch-preserved : goal.loop-scratch-preserved
loop-scratch-preserved c =
    let on = part-brings-on c.next_part_by_rows-part.ensures (omega (arith, room-high Numbers)) c.if-part.false in
    (on.1, search rules)
