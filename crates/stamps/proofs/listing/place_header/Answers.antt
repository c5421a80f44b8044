-- `listing::place_header` meets its contract: five writes, one after the other. Assumes nothing.
use native.Mathlib.Omega.{arith}
use Rattle.stamps.specs.Listing.{header}
use Rattle.numerals.proofs.digits.Places.{then}
use Rattle.stamps.proofs.listing.place_header.Goals as goal

pub number-b-requires : goal.number-b-requires
number-b-requires c =
    let pre = c.requires in
    omega (arith, pre, (c.place_bytes-a.ensures.written (omega (arith, pre))).ends)

pub number-d-requires : goal.number-d-requires
number-d-requires c =
    let pre = c.requires in
    let p1 = c.place_bytes-a.ensures.written (omega (arith, pre)) in
    let most = c.number-b.ensures.upper_bound in
    let p3 = c.place_bytes-c.ensures.written (omega (arith, pre, p1.ends, most)) in
    omega (arith, pre, p1.ends, most, p3.ends)

pub returns : goal.returns
unfolding header
returns c =
    let pre = c.requires in
    let p1 = c.place_bytes-a.ensures.written (omega (arith, pre)) in
    let p2 = c.number-b.ensures in
    let b2 = p2.upper_bound in
    let p3 = c.place_bytes-c.ensures.written (omega (arith, pre, p1.ends, b2)) in
    let p4 = c.number-d.ensures in
    let b4 = p4.upper_bound in
    let p5 = c.place_bytes.ensures.written (omega (arith, pre, p1.ends, b2, p3.ends, b4)) in
    record {
      placed = then (then (then (then p1 p2.placed (omega arith)) p3 (omega arith)) p4.placed (omega arith)) p5 (omega arith);
      upper_bound = omega arith;
    }
