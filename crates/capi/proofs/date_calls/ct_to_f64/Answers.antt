-- `capi::date_calls::ct_to_f64` meets its contract. Assumes nothing.
use mathlib.Core.Path.{ap, ◌∙◌}
use Rattle.julian.specs.JulianDate.{rounded_sum}
use Rattle.capi.proofs.date_calls.ct_to_f64.Goals as goal

pub returns : goal.returns
returns c = c.to_f64.ensures ∙ ap rounded_sum c.new.ensures
