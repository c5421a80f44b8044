-- DEMAND 3 of the calendar at the ends of its ranges: the first date, -68569.5, the last, 10^9, and a date with the largest part of the grid. Each is a closed
-- theorem, which `exact-date` gives; the floats are those of julian::day_number's Ends. Assumes nothing.
use mathlib.Core.Path.{◌≡◌}
use lib.IntN.{pos, negsuc}
use lib.Ieee.{round}
use Rattle.refusals.specs.Outcome.{answer}
use Rattle.floats.specs.Whole.{nought, half}
use Rattle.calendar.specs.Calendar.{date_of}
use Rattle.julian.specs.day_number.ExactDay.{whole_days, units_left, fraction_of}
use Rattle.julian.proofs.day_number.Ends.{lowest, highest, largest, opposite, lowest_fits, highest_fits, largest_fits, opposite_fits}
use Rattle.julian.proofs.day_number.Ends.{nought-fits, lowest_grid, highest_grid, largest_grid, opposite_grid, nought-grid, lowest_range}
use Rattle.julian.proofs.day_number.Ends.{highest_range, largest_range}
use Rattle.julian.specs.Calendar.{fields, julian_to_calendar}
use Rattle.julian.proofs.laws.CalendarDays.{exact-date}

-- the midnight that begins day -68569
pub date-at-lowest : julian_to_calendar lowest nought ≡ answer (fields (date_of (negsuc 68568)) nought)
unfolding lowest_grid nought-grid whole_days units_left fraction_of round
date-at-lowest = exact-date lowest nought lowest_fits nought-fits lowest_grid nought-grid lowest_range

-- the noon of day 10^9
pub date-at-highest : julian_to_calendar highest nought ≡ answer (fields (date_of (pos 1000000000)) half)
unfolding highest_grid nought-grid whole_days units_left fraction_of round
date-at-highest = exact-date highest nought highest_fits nought-fits highest_grid nought-grid highest_range

-- the midnight that begins day 1, from parts of almost 2^52 days
pub date-at-largest : julian_to_calendar largest opposite ≡ answer (fields (date_of (pos 1)) nought)
unfolding largest_grid opposite_grid whole_days units_left fraction_of round
date-at-largest = exact-date largest opposite largest_fits opposite_fits largest_grid opposite_grid largest_range
