-- `utc::iso_texts::named::to_text_by_rows` meets its contract: the refusal of the day, or what is shown on it and its rule. Assumes nothing.
use Rattle.utc.specs.iso_texts.Named.{form_named}
use Rattle.utc.proofs.iso_texts.EachForm.{text_refused, found-in-range, text-told, text_not_told}
use Rattle.utc.proofs.iso_texts.named.to_text_by_rows.Goals as goal

pub returns-in_err-day : goal.returns-in_err-day
returns-in_err-day c = text_refused _ _ _ c.day_of.ensures (form_named c.args.textForm) c.in_err-day.was c.from_residual.ensures.1

pub put_shown-requires : goal.put_shown-requires
put_shown-requires c = found-in-range _ _ _ c.day_of.ensures c.in_ok-day.was

pub returns-in_err-written : goal.returns-in_err-written
returns-in_err-written c =
    text_not_told _ _ _ c.day_of.ensures c.in_ok-day.was (form_named c.args.textForm) c.time_shown-shown.ensures c.put_shown.ensures c.in_err-written.was
    c.from_residual-in_err-written.ensures.1

pub returns : goal.returns
returns c =
    text-told _ _ _ c.day_of.ensures c.in_ok-day.was (form_named c.args.textForm) c.time_shown-shown.ensures c.put_shown.ensures c.in_ok-written.was
