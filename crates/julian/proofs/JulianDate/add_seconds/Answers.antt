-- `julian::JulianDate::add_seconds` meets its contract. Assumes nothing.
use mathlib.Core.Path.{ap, ◌∙◌}
use lib.Ieee.{Float, binary64, div}
use Rattle.constants.proofs.Bits.{seconds-per-day}
use Rattle.julian.specs.JulianDate.{add_days, add_seconds}
use Rattle.julian.proofs.JulianDate.add_seconds.Goals as goal

pub returns : goal.returns
unfolding add_seconds
returns c =
    let a = c.args in
    c.add_days.ensures ∙ ap (λ (k : Float). add_days a.self (div binary64 a.seconds k)) seconds-per-day
