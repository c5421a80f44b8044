-- `capi::date_calls::ct_add_seconds` meets its contract. Assumes nothing.
use mathlib.Core.Path.{ap, ◌∙◌}
use Rattle.julian.specs.declared.JulianDate.{JulianDate}
use Rattle.julian.specs.JulianDate.{add_seconds}
use Rattle.c_answers.specs.Fields.{julian_bytes}
use Rattle.c_answers.proofs.Deliveries.{same_bytes}
use Rattle.capi.proofs.date_calls.ct_add_seconds.Goals as goal

pub returns : goal.returns
returns c =
    same_bytes c.put_julian.type_inv
    (ap julian_bytes (c.add_seconds.ensures ∙ ap (λ (d : JulianDate). add_seconds d c.args.seconds) c.new.ensures))
    c.put_julian.ensures
