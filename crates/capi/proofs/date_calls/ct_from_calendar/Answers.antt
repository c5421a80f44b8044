-- `capi::date_calls::ct_from_calendar` meets its contract. Assumes nothing.
use mathlib.Core.Path.{ap, ◌∙◌}
use lib.IntN.{ℤ}
use mir.Facts.{to_z-of_z}
use Rattle.julian.specs.Calendar.{from_calendar}
use Rattle.c_answers.specs.Fields.{julian_bytes}
use Rattle.c_answers.proofs.Deliveries.{same_outcome}
use Rattle.capi.proofs.date_calls.ct_from_calendar.Goals as goal

pub returns : goal.returns
returns c =
    let a = c.args in
    same_outcome julian_bytes c.put_date.type_inv
    (c.from_calendar.ensures ∙ ap (λ (y : ℤ). from_calendar y a.month a.day a.hour a.minute a.second) (to_z-of_z c.ranges.year))
    c.put_date.ensures
