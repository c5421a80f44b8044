-- `put_sentence` meets its contract. Assumes nothing.
use native.Mathlib.Omega.{arith}
use mathlib.Core.Path.{ap}
use lib.ListN.{length}
use Rattle.numerals.proofs.digits.Places.{placed_first}
use Rattle.utc.proofs.text.Laws.{short, put-done}
use Rattle.reasons.specs.sentences.Render.{render}
use Rattle.reasons.proofs.sentences.put_sentence.Goals as goal

pub returns-then-out-n : goal.returns-then-out-n
returns-then-out-n c = short (render c.args.reason) c.args.out.now (omega (arith, c.if-out-n.true, c.compose-n.ensures.placed.ends))

pub slice_bounds-copy-end : goal.slice_bounds-copy-end
slice_bounds-copy-end c =
    let p = c.compose-n.ensures.placed in
    omega (arith, ap length (placed_first p), p.ends)

pub returns : goal.returns
returns c =
    let p = c.compose-n.ensures.placed in
    let e = c.copy.ensures.copied (omega (arith, ap length (placed_first p), p.ends, c.if-out-n.false)) in
    put-done _ (render c.args.reason) c.args.out.now _ _ (placed_first p) e.0 e.1 (omega (arith, c.if-out-n.false, p.ends))
