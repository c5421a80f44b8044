-- `capi::date_calls::ct_from_julian_year` meets its contract. Assumes nothing.
use mathlib.Core.Path.{ap}
use Rattle.c_answers.specs.Fields.{julian_bytes}
use Rattle.c_answers.proofs.Deliveries.{same_bytes}
use Rattle.capi.proofs.date_calls.ct_from_julian_year.Goals as goal

pub returns : goal.returns
returns c =
    same_bytes c.put_julian.type_inv (ap julian_bytes c.from_julian_year.ensures) c.put_julian.ensures
