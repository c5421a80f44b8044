-- `reported::place_number` meets its contract: two writes, one after the other. Assumes nothing.
use mathlib.Core.Path.{ap}
use native.Mathlib.Omega.{arith}
use Rattle.numerals.proofs.digits.Places.{then, placed-as}
use Rattle.stamps.specs.Listing.{numeral}
use Rattle.stamps.proofs.reported.place_number.Goals as goal

pub number-requires-2 : goal.number-requires-2
number-requires-2 c =
    let pre = c.requires in
    omega (arith, pre, (c.place_bytes-next.ensures.written (omega (arith, pre))).ends)

pub returns : goal.returns
returns c =
    let pre = c.requires in
    let p1 = c.place_bytes-next.ensures.written (omega (arith, pre)) in
    let p2 = c.number-2.ensures in
    record {
      placed = then p1 (placed-as (ap numeral c.number.ensures) p2.placed) (omega (arith, pre, p1.ends, p2.upper_bound));
      upper_bound = omega (arith, p1.ends, p2.upper_bound);
    }
