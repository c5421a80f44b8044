-- `capi::calendar_calls::ct_validate_calendar_date` meets its contract. Assumes nothing.
use mathlib.Core.Path.{sym, ◌∙◌}
use Rattle.refusals.proofs.Handed.{answered, handed}
use Rattle.calendar.specs.Refusals.{valid_date}
use Rattle.calendar.proofs.Signs.{read-date}
use Rattle.c_answers.proofs.Deliveries.{nothing-refused, some-refused}
use Rattle.capi.proofs.calendar_calls.ct_validate_calendar_date.Goals as goal

pub returns-in-Ok : goal.returns-in-Ok
returns-in-Ok c =
    nothing-refused
    (sym (read-date valid_date _ _ _ c.ranges.year c.ranges.month c.ranges.day) ∙ sym c.validate_calendar_date.ensures ∙ answered c.in-Ok.is)

pub returns-in-Err : goal.returns-in-Err
returns-in-Err c =
    some-refused _ c.refused.type_inv
    (sym (read-date valid_date _ _ _ c.ranges.year c.ranges.month c.ranges.day) ∙ sym c.validate_calendar_date.ensures ∙ handed c.in-Err.is)
    c.refused.ensures
