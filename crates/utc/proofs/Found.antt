-- The sets of lemmas by which the check finds proofs of `utc` alone. Assumes nothing.
use Rattle.utc.proofs.UnixDays.{day_is, second_is, day_fits, seconds-most}
use Rattle.constants.proofs.Bits.{nanoseconds-per-second}
use Rattle.time_of_day.proofs.EvenSteps.{at_half, below_half, above_half, halves-even-number, halves-all, halves-more}

-- the nearest whole number to so many halves
pub ruleset halves = (at_half, below_half, above_half, halves-even-number, halves-all, halves-more)

-- the day and the second of a Unix time
pub ruleset days = (day_is, second_is, day_fits, seconds-most)

-- the constant of its second with the nanoseconds
pub ruleset nanos = (nanoseconds-per-second)
