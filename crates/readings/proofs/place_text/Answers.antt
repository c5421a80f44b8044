-- `readings::place_text` meets its contract: the text stands where the call put it, and a refusal is written out where nothing was. Assumes nothing.
use Rattle.std.proofs.Common.{ℕ, sym, ap, ◌∙◌, ◌+◌}
use native.Mathlib.Omega.{arith}
use Rattle.refusals.specs.Outcome.{refusal}
use Rattle.numerals.proofs.digits.Places.{lent_length, part-put, part-kept, placed-as, placed-into}
use Rattle.readings.specs.Reading.{reading_words}
use Rattle.readings.proofs.Lines.{text-written, text_refused}
use Rattle.readings.proofs.place_text.Goals as goal

pub overflow_add-result : goal.overflow_add-result
overflow_add-result c =
    let w = text-written _ c.args.utc.0 c.to_iso8601_expanded_by_rows.ensures _ _ c.in-Ok.is in
    record { fits = omega (arith, w.2, c.requires, c.well_formed) }

pub returns-in-Ok-clause-placed : goal.returns-in-Ok-clause-placed
returns-in-Ok-clause-placed c =
    let w = text-written _ c.args.utc.0 c.to_iso8601_expanded_by_rows.ensures _ _ c.in-Ok.is in
    record {
      ends = ap (λ (k : ℕ). c.args.at + k) w.0;
      holds = part-put c.args.dst.now c.args.at (omega (arith, c.requires)) _ _ w.1;
    }

pub returns-in-Ok-clause-upper_bound : goal.returns-in-Ok-clause-upper_bound
returns-in-Ok-clause-upper_bound c =
    let w = text-written _ c.args.utc.0 c.to_iso8601_expanded_by_rows.ensures _ _ c.in-Ok.is in omega (arith, w.2)

pub returns-in-Err-clause-placed : goal.returns-in-Err-clause-placed
returns-in-Err-clause-placed c =
    let room = lent_length c.args.dst.now c.args.at (omega (arith, c.requires)) in
    let w = text_refused _ c.args.utc.0 c.to_iso8601_expanded_by_rows.ensures _ c.in-Err.is (omega (arith, room, c.requires)) in
    placed-as (ap (λ (k : ℕ). reading_words (refusal k)) c.number.ensures ∙ sym (ap reading_words w.0))
    (placed-into (part-kept c.args.dst.now c.args.at (omega (arith, c.requires)) _ w.1) c.place_refused.ensures.placed)
