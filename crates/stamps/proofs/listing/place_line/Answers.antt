-- `listing::place_line` meets its contract: each line by the block's answer and the line's number. Assumes nothing.
use native.Mathlib.Omega.{arith}
use Rattle.numerals.proofs.digits.Places.{placed-as}
use Rattle.stamps.proofs.Texts.{room-low}
use Rattle.stamps.proofs.Lines.{refused-line, stamps-few, within, header-line, stamp-line}
use Rattle.stamps.proofs.listing.place_line.Goals as goal

pub overflow_cast-stamps : goal.overflow_cast-stamps
overflow_cast-stamps c = omega (arith, stamps-few c.args.block.now c.args.line _ c.requires.0 _ c.in-Ok.is)

pub refused_stamps-requires : goal.refused_stamps-requires
refused_stamps-requires c = stamps-few c.args.block.now c.args.line _ c.requires.0 _ c.in-Ok.is

pub place_header-requires : goal.place_header-requires
place_header-requires c = omega (arith, room-low c.args.reporting, c.requires.2)

pub returns-then-line-eq0 : goal.returns-then-line-eq0
returns-then-line-eq0 c =
    let p = c.place_header.ensures in
    let line = header-line c.args.block.now c.args.line _ c.requires.0 _ c.in-Ok.is _ _ _ c.if-line-eq0.true (c.refused_stamps.ensures _) in
    record { placed = placed-as line p.placed; upper_bound = omega (arith, p.upper_bound, room-low c.args.reporting) }

pub place_stamp_line-requires : goal.place_stamp_line-requires
place_stamp_line-requires c =
    let few = stamps-few c.args.block.now c.args.line _ c.requires.0 _ c.in-Ok.is in
    let low = within c.args.block.now c.args.line _ c.requires.0 _ c.in-Ok.is c.requires.1 in
    (omega (arith, c.if-line-eq0.false), few, c.requires.2)

pub returns-in-Err-clause-placed : goal.returns-in-Err-clause-placed
returns-in-Err-clause-placed c =
    placed-as (refused-line c.args.block.now c.args.line _ c.requires.0 _ c.in-Err.is _ _) c.place_block_refused.ensures.placed

pub returns-else-line-eq0-clause-placed : goal.returns-else-line-eq0-clause-placed
returns-else-line-eq0-clause-placed c =
    placed-as (stamp-line c.args.block.now c.args.line _ c.requires.0 _ c.in-Ok.is _ _ c.if-line-eq0.false) c.place_stamp_line.ensures.placed
