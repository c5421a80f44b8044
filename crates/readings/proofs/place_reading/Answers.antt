-- `readings::place_reading` meets its contract: a refusal of the reader, or the text of its date. Assumes nothing.
use Rattle.std.proofs.Common.{ℕ, sym, ap, ◌∙◌}
use Rattle.refusals.specs.Outcome.{refusal}
use Rattle.numerals.proofs.digits.Places.{placed-as}
use Rattle.readings.specs.Reading.{reading_words}
use Rattle.readings.proofs.Lines.{read-refused, read-dated}
use Rattle.readings.proofs.place_reading.Goals as goal

pub returns-in-Err-clause-placed : goal.returns-in-Err-clause-placed
returns-in-Err-clause-placed c =
    let e = read-refused _ c.args.text.now _ c.from_str_by_rows.ensures _ c.in-Err.is in
    placed-as (ap (λ (k : ℕ). reading_words (refusal k)) c.number.ensures ∙ sym (ap reading_words e)) c.place_refused.ensures.placed

pub returns-in-Ok-clause-placed : goal.returns-in-Ok-clause-placed
returns-in-Ok-clause-placed c =
    let e = read-dated _ c.args.text.now _ c.from_str_by_rows.ensures _ c.in-Ok.is in
    placed-as (sym (ap reading_words e)) c.place_text.ensures.placed
