-- `utc::run_texts::put_single` meets its contract: what stands beside the text that the single call writes. Assumes nothing.
use Rattle.std.proofs.Common.{ℕ, sym, ap, ◌∙◌}
use Rattle.refusals.proofs.Handed.{number_in_byte}
use Rattle.leap_table.specs.rows.Announced.{rows_of}
use Rattle.utc.proofs.run_texts.Puts.{beside_of, date-beside}
use Rattle.utc.proofs.run_texts.put_single.Goals as goal

pub returns-in-Ok : goal.returns-in-Ok
unfolding beside_of
returns-in-Ok c =
    let a = c.args in
    date-beside a.textForm (rows_of a.table.now) a.date.0 a.out.now c.to_text_by_rows.result _ _ c.requires
    (sym (ap beside_of c.in-Ok.is)) c.to_text_by_rows.ensures

pub returns-in-Err : goal.returns-in-Err
unfolding beside_of
returns-in-Err c =
    let a = c.args in
    date-beside a.textForm (rows_of a.table.now) a.date.0 a.out.now c.to_text_by_rows.result _ _ c.requires
    (ap (λ (n : ℕ). record { length = 0; number = n }) (c.byte.ensures ∙ number_in_byte _) ∙ sym (ap beside_of c.in-Err.is)) c.to_text_by_rows.ensures
