-- `lines::place_sentence` meets its contract: a colon and the sentence, which fits. Assumes nothing.
use Rattle.std.proofs.Common.{length, ap, arith}
use Rattle.numerals.proofs.digits.Places.{lent_length, placed-as, then, nothing-at}
use Rattle.line_listing.proofs.lines.Texts.{put-whole, part_placed}
use Rattle.line_listing.proofs.lines.Line.{reason_told, no_reason}
use Rattle.line_listing.proofs.lines.place_sentence.Goals as goal

pub returns-in_default : goal.returns-in_default
returns-in_default c =
    placed-as (no_reason _ c.args.jd _ c.reason_of.ensures c.in_default.not-Ok)
    (nothing-at c.args.dst.now c.args.at (omega (arith, c.requires)))

pub overflow_add-result : goal.overflow_add-result
overflow_add-result c =
    let t = ap length (reason_told _ c.args.jd _ c.reason_of.ensures _ c.in-Ok.is) in
    let p = c.place_bytes-next.ensures.written (omega (arith, t, c.requires)) in
    let room = lent_length c.place_bytes-next.new.dst c.place_bytes-next.result (omega (arith, t, p.ends, c.requires)) in
    let w = put-whole c.put_sentence.ensures (omega (arith, room, t, p.ends, c.requires)) _ c.unwrap_or.ensures in
    omega (arith, t, p.ends, w.0, c.requires, c.well_formed)

pub returns : goal.returns
returns c =
    let e = reason_told _ c.args.jd _ c.reason_of.ensures _ c.in-Ok.is in
    let t = ap length e in
    let p = c.place_bytes-next.ensures.written (omega (arith, t, c.requires)) in
    let room = lent_length c.place_bytes-next.new.dst c.place_bytes-next.result (omega (arith, t, p.ends, c.requires)) in
    let w = put-whole c.put_sentence.ensures (omega (arith, room, t, p.ends, c.requires)) _ c.unwrap_or.ensures in
    let q = part_placed c.place_bytes-next.new.dst c.place_bytes-next.result (omega (arith, t, p.ends, c.requires)) _ _ _ w.0
    w.1 in
    placed-as e (then p q (omega (arith, t, p.ends, w.0, c.requires)))
