-- `head::put_head` meets its contract. Assumes nothing.
use Rattle.std.proofs.Common.{ap, arith, length}
use Rattle.numerals.proofs.digits.Places.{placed_first}
use Rattle.utc.proofs.text.Laws.{short, put-done}
use Rattle.line_listing.specs.head.Head.{head_text}
use Rattle.line_listing.specs.lines.StampLine.{stamps}
use Rattle.line_listing.proofs.head.put_head.Goals as goal

pub returns-then-out-n : goal.returns-then-out-n
returns-then-out-n c =
    short (head_text c.args.gps c.args.tai c.args.utc
    (stamps c.args.jd1s.now c.args.jd2s.now c.args.numbers.now c.args.first c.args.second))
    c.args.out.now (omega (arith, c.if-out-n.true, c.compose-n.ensures.placed.ends))

pub returns : goal.returns
returns c =
    let p = c.compose-n.ensures.placed in
    let e = c.copy.ensures.copied (omega (arith, ap length (placed_first p), p.ends, c.if-out-n.false)) in
    put-done _ (head_text c.args.gps c.args.tai c.args.utc
    (stamps c.args.jd1s.now c.args.jd2s.now c.args.numbers.now c.args.first c.args.second))
    c.args.out.now _ _
    (placed_first p) e.0 e.1
    (omega (arith, c.if-out-n.false, p.ends))
