-- `lines::place_line` meets its contract: five writes, one after the other. Assumes nothing.
use Rattle.std.proofs.Common.{ap, arith}
use Rattle.numerals.specs.digits.Decimal.{digits_of}
use Rattle.numerals.proofs.digits.Decimal.{digits-few}
use Rattle.numerals.proofs.digits.Places.{then, placed-as}
use Rattle.line_listing.specs.lines.Asked.{line_told}
use Rattle.line_listing.proofs.lines.Lengths.{room-low}
use Rattle.line_listing.proofs.lines.place_line.Goals as goal

pub place_recorder-a-requires : goal.place_recorder-a-requires
place_recorder-a-requires c = omega (arith, room-low c.args.sentences, c.requires.2)

pub place_stamp-told-requires : goal.place_stamp-told-requires
place_stamp-told-requires c =
    let pre = c.requires in
    let low = room-low c.args.sentences in
    let p1 = c.place_recorder-a.ensures in
    let ten = digits-few 9 c.index_in.result (omega (arith, c.index_in.ensures.1, pre.1)) in
    let p2 = c.place_decimal-b.ensures.0.written (omega (arith, low, pre.2, p1.1, ten)) in
    let p3 = c.place_bytes-c.ensures.written (omega (arith, low, pre.2, p1.1, ten, p2.ends)) in
    (pre.0, omega (arith, pre.2, p1.1, ten, p2.ends, p3.ends))

pub returns-clause-told_at : goal.returns-clause-told_at
unfolding line_told
returns-clause-told_at c =
    let pre = c.requires in
    let low = room-low c.args.sentences in
    let p1 = c.place_recorder-a.ensures in
    let i = c.index_in.ensures in
    let ten = digits-few 9 c.index_in.result (omega (arith, i.1, pre.1)) in
    let p2 = c.place_decimal-b.ensures.0.written (omega (arith, low, pre.2, p1.1, ten)) in
    let p3 = c.place_bytes-c.ensures.written (omega (arith, low, pre.2, p1.1, ten, p2.ends)) in
    let p4 = c.place_stamp-told.ensures in
    let p5 = c.place_bytes-next.ensures.written (omega (arith, pre.2, p1.1, ten, p2.ends, p3.ends, p4.next_bound)) in
    let p12 = then p1.0 (placed-as (ap digits_of i.0) p2) (omega (arith, low, pre.2, p1.1, ten, p2.ends)) in
    let p123 = then p12 p3 (omega (arith, low, pre.2, p1.1, ten, p2.ends, p3.ends)) in
    let p1234 = then p123 p4.told_at.placed (omega (arith, pre.2, p1.1, ten, p2.ends, p3.ends, p4.next_bound)) in
    record {
      placed = then p1234 p5 (omega (arith, pre.2, p1.1, ten, p2.ends, p3.ends, p4.next_bound, p5.ends));
      counted = p4.told_at.counted;
    }

pub returns-clause-next_bound : goal.returns-clause-next_bound
returns-clause-next_bound c =
    let pre = c.requires in
    let low = room-low c.args.sentences in
    let p1 = c.place_recorder-a.ensures in
    let ten = digits-few 9 c.index_in.result (omega (arith, c.index_in.ensures.1, pre.1)) in
    let p2 = c.place_decimal-b.ensures.0.written (omega (arith, low, pre.2, p1.1, ten)) in
    let p3 = c.place_bytes-c.ensures.written (omega (arith, low, pre.2, p1.1, ten, p2.ends)) in
    let p4 = c.place_stamp-told.ensures in
    let p5 = c.place_bytes-next.ensures.written (omega (arith, pre.2, p1.1, ten, p2.ends, p3.ends, p4.next_bound)) in
    omega (arith, p1.1, ten, p2.ends, p3.ends, p4.next_bound, p5.ends)
