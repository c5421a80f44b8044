-- DEMAND 3 of UTC text at the ends of its ranges: the first date, -68569.5, the last, 10^9, and a date with the largest part of the grid. Each is a closed
-- theorem, which `demand_3` and `text-for-every-buffer` give; the floats are those of julian::day_number's Ends. Assumes nothing.
use Rattle.floats.specs.Whole.{nought}
use Rattle.julian.specs.day_number.ExactDay.{grid_sum}
use Rattle.julian.proofs.day_number.Ends.{lowest, highest, largest, opposite, lowest_fits, highest_fits, largest_fits, opposite_fits, nought-fits}
use Rattle.julian.proofs.day_number.Ends.{lowest_grid, highest_grid, largest_grid, opposite_grid, nought-grid, lowest_range, highest_range}
use Rattle.julian.proofs.day_number.Ends.{largest_range}
use Rattle.julian.specs.JulianDate.{julian}
use Rattle.leap_table.specs.rows.Table.{fixed}
use Rattle.utc.specs.iso_texts.IsoText.{iso_text, standard_form}
use Rattle.utc.specs.laws.Shows.{TextDemand, promise01}
use Rattle.utc.specs.laws.OneText.{OneText}
use Rattle.utc.proofs.laws.Demand3.{demand_3}
use Rattle.utc.proofs.laws.OneText.{text-for-every-buffer}

-- one text, and what it shows
pub text-at-lowest : TextDemand promise01 fixed (grid_sum lowest_grid nought-grid) (iso_text fixed (julian lowest nought))
text-at-lowest = demand_3 lowest nought lowest_fits nought-fits lowest_grid nought-grid lowest_range

pub text-at-highest : TextDemand promise01 fixed (grid_sum highest_grid nought-grid) (iso_text fixed (julian highest nought))
text-at-highest = demand_3 highest nought highest_fits nought-fits highest_grid nought-grid highest_range

pub text-at-largest : TextDemand promise01 fixed (grid_sum largest_grid opposite_grid) (iso_text fixed (julian largest opposite))
text-at-largest = demand_3 largest opposite largest_fits opposite_fits largest_grid opposite_grid largest_range

-- for every division of the sum and every buffer
pub every_buffer_at_lowest : OneText standard_form promise01 fixed (grid_sum lowest_grid nought-grid)
every_buffer_at_lowest = text-for-every-buffer (grid_sum lowest_grid nought-grid) lowest_range

pub every_buffer_at_highest : OneText standard_form promise01 fixed (grid_sum highest_grid nought-grid)
every_buffer_at_highest = text-for-every-buffer (grid_sum highest_grid nought-grid) highest_range
