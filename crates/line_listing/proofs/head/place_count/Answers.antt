-- `head::place_count` meets its contract. Assumes nothing.
use Rattle.std.proofs.Common.{arith}
use Rattle.numerals.proofs.digits.Places.{then}
use Rattle.reasons.proofs.sentences.Placing.{placed-length}
use Rattle.line_listing.specs.head.Head.{counted}
use Rattle.line_listing.proofs.head.place_count.Goals as goal

pub returns : goal.returns
unfolding counted
returns c =
    let p = c.place_bytes-next.ensures.written (omega (arith, c.requires)) in
    let few = c.place_decimal.ensures.1 in
    let q = c.place_decimal.ensures.0.written (omega (arith, p.ends, few, c.requires)) in
    let all = then p q (omega (arith, p.ends, few, q.ends, c.requires)) in
    record {
      placed = all;
      within = omega (arith, p.ends, few, q.ends);
      long = placed-length all
          (omega (arith, all.ends, p.ends, few, q.ends, c.requires));
    }
