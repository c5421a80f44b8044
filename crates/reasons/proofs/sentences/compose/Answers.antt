-- `compose` meets its contract: the text, and the field behind it. Assumes nothing.
use native.Mathlib.Omega.{arith}
use Rattle.numerals.proofs.digits.Places.{then}
use Rattle.reasons.specs.sentences.Render.{render}
use Rattle.reasons.proofs.sentences.FixedTexts.{text-short}
use Rattle.reasons.proofs.sentences.Placing.{placed-length}
use Rattle.reasons.proofs.sentences.compose.Goals as goal

pub named-requires : goal.named-requires
named-requires c =
    let short = text-short c.args.reason.number in
    let p = c.text-at.ensures.written (omega (arith, short, c.requires)) in
    omega (arith, p.ends, short, placed-length p (omega (arith, short, c.requires)), c.requires)

pub returns : goal.returns
unfolding render
returns c =
    let short = text-short c.args.reason.number in
    let p = c.text-at.ensures.written (omega (arith, short, c.requires)) in
    let end = c.named.ensures.upper_bound in
    record {
      placed = then p c.named.ensures.placed (omega (arith, end, p.ends, short, c.requires));
      upper_bound = omega (arith, end, p.ends, short);
    }
