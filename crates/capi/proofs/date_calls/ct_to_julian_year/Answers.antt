-- `capi::date_calls::ct_to_julian_year` meets its contract. Assumes nothing.
use mathlib.Core.Path.{ap, ◌∙◌}
use Rattle.julian.specs.JulianYear.{to_julian_year}
use Rattle.capi.proofs.date_calls.ct_to_julian_year.Goals as goal

pub returns : goal.returns
returns c = c.to_julian_year.ensures ∙ ap to_julian_year c.new.ensures
