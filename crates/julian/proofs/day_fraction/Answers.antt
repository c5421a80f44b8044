-- `julian::day_fraction` meets its contract. Assumes nothing.
use mathlib.Core.Path.{sym, ◌∙◌}
use lib.Ieee.{of_bits, round}
use Rattle.refusals.specs.Outcome.{outcome}
use Rattle.refusals.specs.Refusal.{refusal_number}
use Rattle.constants.specs.Constants.{seconds_per_day}
use Rattle.julian.specs.DayFraction.{day_fraction}
use Rattle.julian.proofs.day_fraction.Goals as goal

pub returns : goal.returns
unfolding outcome day_fraction seconds_per_day of_bits round refusal_number
returns c = rw (sym c.time_in_day.ensures ∙ c.if-not-time_in_day.false)
