-- `capi::date_calls::ct_add_days` meets its contract. Assumes nothing.
use mathlib.Core.Path.{ap, ◌∙◌}
use Rattle.julian.specs.declared.JulianDate.{JulianDate}
use Rattle.julian.specs.JulianDate.{add_days}
use Rattle.c_answers.specs.Fields.{julian_bytes}
use Rattle.c_answers.proofs.Deliveries.{same_bytes}
use Rattle.capi.proofs.date_calls.ct_add_days.Goals as goal

pub returns : goal.returns
returns c =
    same_bytes c.put_julian.type_inv
    (ap julian_bytes (c.add_days.ensures ∙ ap (λ (d : JulianDate). add_days d c.args.days) c.new.ensures))
    c.put_julian.ensures
