-- `runs::by_day::hand_of` meets its contract. Assumes nothing.
use mathlib.Core.Path.{refl}
use lib.Ieee.{round, of_bits}
use Rattle.constants.specs.Constants.{seconds_per_day, mjd_zero_point}
use Rattle.leap_table.specs.offsets.Leap.{drift_rate, leap_amount}
use Rattle.runs.specs.by_day.Hand.{hand_of}
use Rattle.runs.proofs.by_day.hand_of.Goals as goal

pub returns : goal.returns
unfolding hand_of drift_rate leap_amount seconds_per_day mjd_zero_point round of_bits
returns c = refl
