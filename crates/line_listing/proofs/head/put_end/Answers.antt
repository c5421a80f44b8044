-- `head::put_end` meets its contract. Assumes nothing.
use Rattle.std.proofs.Common.{ap, arith, length}
use Rattle.numerals.proofs.digits.Places.{placed_first}
use Rattle.utc.proofs.text.Laws.{short, put-done}
use Rattle.line_listing.specs.head.Head.{end_text}
use Rattle.line_listing.proofs.head.put_end.Goals as goal

pub returns-then-out-n : goal.returns-then-out-n
returns-then-out-n c =
    short (end_text c.args.ordered c.args.textless) c.args.out.now (omega (
      arith,
      c.if-out-n.true,
      c.compose_end-n.ensures.placed.ends,
    ))

pub returns : goal.returns
returns c =
    let p = c.compose_end-n.ensures.placed in
    let e = c.copy.ensures.copied (omega (arith, ap length (placed_first p), p.ends, c.if-out-n.false)) in
    put-done _ (end_text c.args.ordered c.args.textless) c.args.out.now _ _ (placed_first p) e.0
    e.1
    (omega (arith, c.if-out-n.false, p.ends))
