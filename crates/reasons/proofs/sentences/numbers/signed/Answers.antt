-- `numbers::signed` meets its contract: the sign where there is one, and the digits. Assumes nothing.
use Prim.Native.Nat.{ℕ}
use native.Mathlib.Omega.{arith}
use mathlib.Core.Path.{ap, ◌∙◌}
use mathlib.Core.List.{◌∷◌}
use mathlib.Core.Bool.{true, false}
use lib.IntN.{pos, nat_abs}
use mir.Facts.{to_z-of_z}
use Rattle.calendar.proofs.Signs.{lt_left}
use Rattle.numerals.specs.digits.Decimal.{digits_of}
use Rattle.numerals.proofs.digits.Places.{then, placed-as}
use Rattle.reasons.proofs.sentences.Digits.{signed_below, signed-from}
use Rattle.reasons.proofs.sentences.Placing.{placed-length, decimal-placed}
use Rattle.reasons.proofs.sentences.numbers.signed.Goals as goal

pub returns-then-n-lt0 : goal.returns-then-n-lt0
returns-then-n-lt0 c =
    let e = c.unsigned_abs-digits.ensures.value ∙ ap nat_abs (to_z-of_z c.ranges.n) in
    let m = c.place_bytes-next.ensures.written (omega (arith, c.requires)) in
    let l = placed-length m (omega (arith, c.requires)) in
    let q = decimal-placed c.place_decimal.ensures.0 c.place_decimal.ensures.1 (omega (arith, m.ends, l, c.requires)) in
    let p = then m q.0 (omega (arith, q.1, m.ends, c.requires)) in
    record {
      placed = placed-as (ap (λ (k : ℕ). 45 ∷ digits_of k) e ∙ signed_below c.args.n (lt_left c.args.n (pos 0) true c.ranges.n c.if-n-lt0.true)) p;
      upper_bound = omega (arith, q.1, m.ends);
    }

pub returns : goal.returns
returns c =
    let e = c.unsigned_abs-digits.ensures.value ∙ ap nat_abs (to_z-of_z c.ranges.n) in
    let q = decimal-placed c.place_decimal-2.ensures.0 c.place_decimal-2.ensures.1 (omega (arith, c.requires)) in
    record {
      placed = placed-as (ap digits_of e ∙ signed-from c.args.n (lt_left c.args.n (pos 0) false c.ranges.n c.if-n-lt0.false)) q.0;
      upper_bound = omega (arith, q.1);
    }
