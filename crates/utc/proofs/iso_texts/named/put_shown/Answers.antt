-- `utc::iso_texts::named::put_shown` meets its contract: a time of the date itself, or the next date's midnight. Assumes nothing.
use Rattle.std.proofs.Common.{sym, ap, ◌∙◌, SFits, w32, rules}
use Rattle.refusals.proofs.Handed.{answered, handed, handed_on}
use Rattle.calendar.specs.Refusals.{next_of}
use Rattle.julian.proofs.Dates.{read-fields}
use Rattle.utc.specs.iso_texts.IsoText.{shown_text_by}
use Rattle.utc.specs.iso_texts.Named.{form_named}
use Rattle.utc.proofs.iso_texts.TextCalls.{call-refused, call-put, next-refused, next-given}
use Rattle.utc.proofs.iso_texts.named.put_shown.Goals as goal

pub returns-in-At : goal.returns-in-At
unfolding shown_text_by
returns-in-At c = call-put _ _ _ _ _ (ap (shown_text_by (form_named c.args.textForm).write c.args.date) c.in-At.is) c.put.ensures

pub returns-in_err-next-in-NextMidnight : goal.returns-in_err-next-in-NextMidnight
unfolding shown_text_by
returns-in_err-next-in-NextMidnight c =
    let f : SFits w32 c.args.date.year = search rules in
    let write = (form_named c.args.textForm).write in
    call-refused _ _ _ _ (handed_on _ _ c.from_residual.ensures.1)
    (ap (shown_text_by write c.args.date) c.in-NextMidnight.is
    ∙ next-refused write c.args.date _
    (sym (read-fields next_of c.args.date f c.requires.0 c.requires.1) ∙ sym c.next_calendar_day.ensures ∙ handed c.in_err-next-in-NextMidnight.was))

pub returns-in_ok-next-in-NextMidnight : goal.returns-in_ok-next-in-NextMidnight
unfolding shown_text_by
returns-in_ok-next-in-NextMidnight c =
    let f : SFits w32 c.args.date.year = search rules in
    let write = (form_named c.args.textForm).write in
    call-put _ _ _ _ _
    (ap (shown_text_by write c.args.date) c.in-NextMidnight.is
    ∙ next-given write c.args.date _
    (sym (read-fields next_of c.args.date f c.requires.0 c.requires.1) ∙ sym c.next_calendar_day.ensures ∙ answered c.in_ok-next-in-NextMidnight.was))
    c.put-in-NextMidnight.ensures
