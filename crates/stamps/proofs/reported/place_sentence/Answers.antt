-- `reported::place_sentence` meets its contract: the sentence fits, so that the call writes it. Assumes nothing.
use Prim.Native.Nat.{ℕ, ◌+◌}
use mathlib.Core.Path.{ap}
use native.Mathlib.Omega.{arith}
use Rattle.refusals.specs.Refusal.{refusal_number}
use Rattle.numerals.proofs.digits.Places.{lent_length, part-put}
use Rattle.reasons.proofs.SentenceLengths.{reason_short}
use Rattle.stamps.proofs.Texts.{given-whole}
use Rattle.stamps.proofs.Reportings.{as_given}
use Rattle.stamps.proofs.reported.place_sentence.Goals as goal

pub overflow_add-result : goal.overflow_add-result
overflow_add-result c =
    let room = lent_length c.args.dst.now c.args.at (omega (arith, c.requires.1)) in
    let short = reason_short (refusal_number c.args.refusal) c.args.values c.requires.0 in
    let w = given-whole (as_given _ _ c.number.ensures c.args.values c.put_reason.ensures) (omega (arith, room, short, c.requires.1)) _
    c.unwrap_or.ensures in
    omega (arith, w.0, short, c.requires.1, c.well_formed)

pub returns : goal.returns
returns c =
    let room = lent_length c.args.dst.now c.args.at (omega (arith, c.requires.1)) in
    let short = reason_short (refusal_number c.args.refusal) c.args.values c.requires.0 in
    let w = given-whole (as_given _ _ c.number.ensures c.args.values c.put_reason.ensures) (omega (arith, room, short, c.requires.1)) _
    c.unwrap_or.ensures in
    record {
      placed = record {
        ends = ap (λ (k : ℕ). c.args.at + k) w.0;
        holds = part-put c.args.dst.now c.args.at (omega (arith, c.requires.1)) _ _ w.1;
      };
      upper_bound = omega (arith, w.0, short);
    }
