-- `listing::place_stamp_line` meets its contract: four writes, one after the other. Assumes nothing.
use native.Mathlib.Omega.{arith}
use Rattle.stamps.proofs.Texts.{room-low}
use Rattle.stamps.proofs.Lines.{stamp-put}
use Rattle.stamps.proofs.listing.place_stamp_line.Goals as goal

pub number-a-requires : goal.number-a-requires
number-a-requires c = omega (arith, room-low c.args.reporting, c.requires.2)

pub place_shown-c-requires : goal.place_shown-c-requires
place_shown-c-requires c =
    let most = c.number-a.ensures.upper_bound in
    let p2 = c.place_bytes-b.ensures.written (omega (arith, room-low c.args.reporting, c.requires.2, most)) in
    omega (arith, c.requires.2, most, p2.ends)

pub returns : goal.returns
returns c =
    let pre = c.requires.2 in
    let p1 = c.number-a.ensures in
    let b1 = p1.upper_bound in
    let p2 = c.place_bytes-b.ensures.written (omega (arith, room-low c.args.reporting, pre, b1)) in
    let p3 = c.place_shown-c.ensures in
    let b3 = p3.result_bound in
    let p4 = c.place_bytes.ensures.written (omega (arith, pre, b1, p2.ends, b3)) in
    record {
      placed = stamp-put _ _ _ _ _ _ c.stamp_at.ensures p1.placed p2 p3.placed p4 (omega (arith, pre, b1, p2.ends, b3, p4.ends));
      upper_bound = omega (arith, b1, p2.ends, b3, p4.ends);
    }
