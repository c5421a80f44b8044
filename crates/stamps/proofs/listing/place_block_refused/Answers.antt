-- `listing::place_block_refused` meets its contract: three writes, one after the other. Assumes nothing.
use native.Mathlib.Omega.{arith}
use Rattle.numerals.proofs.digits.Places.{then}
use Rattle.stamps.specs.Listing.{block_refused}
use Rattle.stamps.proofs.Texts.{room-low}
use Rattle.stamps.proofs.listing.place_block_refused.Goals as goal

pub place_block_reported-b-requires : goal.place_block_reported-b-requires
place_block_reported-b-requires c =
    let p1 = c.place_bytes-a.ensures.written (omega (arith, room-low c.args.reporting, c.requires)) in
    omega (arith, c.requires, p1.ends)

pub returns : goal.returns
unfolding block_refused
returns c =
    let p1 = c.place_bytes-a.ensures.written (omega (arith, room-low c.args.reporting, c.requires)) in
    let p2 = c.place_block_reported-b.ensures in
    let most = p2.result_bound in
    let p3 = c.place_bytes.ensures.written (omega (arith, p1.ends, most, c.requires)) in
    record {
      placed = then (then p1 p2.placed (omega (arith, p1.ends, most, c.requires))) p3 (omega (arith, p1.ends, most, p3.ends, c.requires));
      upper_bound = omega (arith, p1.ends, most, p3.ends);
    }
