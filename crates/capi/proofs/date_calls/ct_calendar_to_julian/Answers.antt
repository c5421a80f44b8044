-- `capi::date_calls::ct_calendar_to_julian` meets its contract. Assumes nothing.
use mathlib.Core.Path.{◌∙◌}
use Rattle.calendar.proofs.Signs.{read-date}
use Rattle.julian.specs.Calendar.{calendar_to_julian}
use Rattle.c_answers.specs.Fields.{julian_bytes}
use Rattle.c_answers.proofs.Deliveries.{same_outcome}
use Rattle.capi.proofs.date_calls.ct_calendar_to_julian.Goals as goal

pub returns : goal.returns
returns c =
    same_outcome julian_bytes c.put_date.type_inv
    (c.calendar_to_julian.ensures ∙ read-date calendar_to_julian _ _ _ c.ranges.year c.ranges.month c.ranges.day)
    c.put_date.ensures
