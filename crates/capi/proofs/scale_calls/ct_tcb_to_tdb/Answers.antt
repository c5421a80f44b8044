-- `capi::scale_calls::ct_tcb_to_tdb` meets its contract. Assumes nothing.
use mathlib.Core.Path.{◌∙◌}
use Rattle.c_answers.specs.Fields.{julian_bytes}
use Rattle.c_answers.proofs.Deliveries.{same_outcome}
use Rattle.std.proofs.Common.{rules}
use Rattle.capi.proofs.scale_calls.Mapped.{mapped}
use Rattle.capi.proofs.scale_calls.ct_tcb_to_tdb.Goals as goal

pub returns : goal.returns
returns c =
    same_outcome julian_bytes c.put_date.type_inv (mapped (λ s. s.0) _ _ c.map.ensures.cases (λ x y p. search rules) ∙ c.tcb_to_tdb.ensures)
    c.put_date.ensures
