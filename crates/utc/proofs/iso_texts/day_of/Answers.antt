-- `utc::iso_texts::day_of` meets its contract: the refusal of the calendar, or the day that it answers. Assumes nothing.
use Rattle.std.proofs.Common.{sym, ◌∙◌, arith}
use Rattle.refusals.proofs.Handed.{answered, stops, goes}
use Rattle.julian.proofs.Dates.{date-in-range}
use Rattle.utc.specs.iso_texts.TextDay.{text_day}
use Rattle.utc.proofs.iso_texts.day_of.Goals as goal

pub returns-in_err-fields : goal.returns-in_err-fields
unfolding text_day
returns-in_err-fields c = stops _ _ _ _ c.from_residual.ensures.1 c.in_err-fields.ensures

pub with_leap-requires : goal.with_leap-requires
with_leap-requires c =
    let r = date-in-range _ _ _ (sym c.julian_to_calendar.ensures ∙ answered c.in_ok-fields.was) in
    (omega (arith, r.month-high), omega (arith, r.day-high))

pub returns : goal.returns
unfolding text_day
returns c = c.with_leap.ensures ∙ goes _ _ _ c.in_ok-fields.ensures
