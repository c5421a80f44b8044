-- `capi::calendar_calls::ct_next_calendar_day` meets its contract. Assumes nothing.
use mathlib.Core.Path.{◌∙◌}
use Rattle.calendar.specs.Refusals.{next_of}
use Rattle.calendar.proofs.Signs.{read-date}
use Rattle.c_answers.specs.Fields.{date_bytes}
use Rattle.c_answers.proofs.Deliveries.{same_outcome}
use Rattle.capi.proofs.calendar_calls.ct_next_calendar_day.Goals as goal

pub returns : goal.returns
returns c =
    same_outcome date_bytes c.put_next.type_inv
    (c.next_calendar_day.ensures ∙ read-date next_of _ _ _ c.ranges.year c.ranges.month c.ranges.day)
    c.put_next.ensures
