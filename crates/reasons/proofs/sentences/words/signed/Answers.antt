-- `words::signed` meets its contract: the word, and the number behind it. Assumes nothing.
use native.Mathlib.Omega.{arith}
use mathlib.Core.Path.{ap}
use mir.Facts.{to_z-of_z}
use Rattle.numerals.proofs.digits.Places.{then, placed-as}
use Rattle.reasons.specs.sentences.Render.{signed_digits}
use Rattle.reasons.proofs.sentences.Placing.{placed-length}
use Rattle.reasons.proofs.sentences.words.signed.Goals as goal

pub signed-requires : goal.signed-requires
signed-requires c =
    let p = c.place_bytes-next.ensures.written (omega (arith, c.requires)) in
    omega (arith, p.ends, placed-length p (omega (arith, c.requires)), c.requires)

pub returns : goal.returns
returns c =
    let p = c.place_bytes-next.ensures.written (omega (arith, c.requires)) in
    let q = placed-as (ap signed_digits (to_z-of_z c.ranges.n)) c.signed.ensures.placed in
    let short = c.signed.ensures.upper_bound in
    record { placed = then p q (omega (arith, p.ends, short, c.requires)); upper_bound = omega (arith, p.ends, short, c.requires) }
