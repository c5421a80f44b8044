-- The ranges of demand 3 are met at their ends: two dates at the ends of the range of sums, -68569.5 and 10 ^ 9, one with the largest part of the grid, and one
-- with the largest parts of the wide grid. Each is a closed theorem: a narrower grid or a narrower range of sums would leave it without a proof. Assumes
-- nothing.
use mathlib.Core.Path.{◌≡◌, refl}
use mathlib.Core.Bool.{true, false}
use Prim.Native.Nat.{◌-◌, ◌*◌, ◌^◌}
use lib.Dec.{T, lit≤, lit<}
use lib.IntN.{pos, negsuc}
use lib.Ieee.{Float, fin, binary64, fits, round}
use Rattle.refusals.specs.Outcome.{answer}
use Rattle.floats.specs.Whole.{nought, half}
use Rattle.julian.specs.day_number.Answer.{day_number_and_fraction}
use Rattle.julian.specs.day_number.ExactDay.{OnGrid, OnWideGrid, grid_sum, GridSumInRange, whole_days, units_left, fraction_of}
use Rattle.julian.proofs.day_number.ExactDay.{exact, exact-to-2-62}

-- ---- the floats

-- -68569.5
abbrev pub lowest : Float
lowest = fin true 137139 (negsuc 0)

-- 10 ^ 9
abbrev pub highest : Float
highest = fin false 1953125 (pos 9)

-- 2 ^ 52 - 0.5, the largest f64 under 2 ^ 52, and -(2 ^ 52 - 1)
abbrev pub largest : Float
largest = fin false 9007199254740991 (negsuc 0)

abbrev pub opposite : Float
opposite = fin true 4503599627370495 (pos 0)

pub lowest_fits : T (fits binary64 lowest)
unfolding fits
lowest_fits = tt

pub highest_fits : T (fits binary64 highest)
unfolding fits
highest_fits = tt

pub largest_fits : T (fits binary64 largest)
unfolding fits
largest_fits = tt

pub opposite_fits : T (fits binary64 opposite)
unfolding fits
opposite_fits = tt

pub nought-fits : T (fits binary64 nought)
unfolding fits
nought-fits = tt

-- ---- each is on the grid

unfoldable pub lowest_grid : OnGrid lowest
lowest_grid = record {
  units = negsuc (137139 * 2 ^ 51 - 1);
  val = record { sign = true; size = 137139 * 2 ^ 51; has = (refl, refl); is = refl };
  high =
      lit< tt;
  low = lit< tt;
}

unfoldable pub highest_grid : OnGrid highest
highest_grid = record {
  units = pos (1000000000 * 2 ^ 52);
  val = record { sign = false; size = 1000000000 * 2 ^ 52; has = (refl, refl); is = refl };
  high =
      lit< tt;
  low = lit< tt;
}

unfoldable pub largest_grid : OnGrid largest
largest_grid = record {
  units = pos (9007199254740991 * 2 ^ 51);
  val =
      record { sign = false; size = 9007199254740991 * 2 ^ 51; has = (refl, refl); is = refl };
  high = lit< tt;
  low = lit< tt;
}

unfoldable pub opposite_grid : OnGrid opposite
opposite_grid = record {
  units = negsuc (4503599627370495 * 2 ^ 52 - 1);
  val =
      record { sign = true; size = 4503599627370495 * 2 ^ 52; has = (refl, refl); is = refl };
  high = lit< tt;
  low = lit< tt;
}

unfoldable pub nought-grid : OnGrid nought
nought-grid = record { units = pos 0; val = record { sign = false; size = 0; has = (refl, refl); is = refl }; high = lit< tt; low = lit< tt }

-- ---- each sum is in the range: the first and the last of it, and 0.5

pub lowest_range : GridSumInRange (grid_sum lowest_grid nought-grid)
unfolding lowest_grid nought-grid
lowest_range = record { low = lit≤ tt; high = lit≤ tt }

pub highest_range : GridSumInRange (grid_sum highest_grid nought-grid)
unfolding highest_grid nought-grid
highest_range = record { low = lit≤ tt; high = lit≤ tt }

pub largest_range : GridSumInRange (grid_sum largest_grid opposite_grid)
unfolding largest_grid opposite_grid
largest_range = record { low = lit≤ tt; high = lit≤ tt }

-- ---- DEMAND 3 there: the midnight that begins day -68569, the noon of day 10 ^ 9, and the midnight that begins day 1

pub exact-at-lowest : day_number_and_fraction lowest nought ≡ answer (record { day = negsuc 68568; fraction = nought })
unfolding lowest_grid nought-grid whole_days units_left fraction_of round
exact-at-lowest = exact lowest nought lowest_fits nought-fits lowest_grid nought-grid lowest_range

pub exact-at-highest : day_number_and_fraction highest nought ≡ answer (record { day = pos 1000000000; fraction = half })
unfolding highest_grid nought-grid whole_days units_left fraction_of round
exact-at-highest = exact highest nought highest_fits nought-fits highest_grid nought-grid highest_range

pub exact-at-largest : day_number_and_fraction largest opposite ≡ answer (record { day = pos 1; fraction = nought })
unfolding largest_grid opposite_grid whole_days units_left fraction_of round
exact-at-largest = exact largest opposite largest_fits opposite_fits largest_grid opposite_grid largest_range

-- ---- and at the end of the wide grid: (2 ^ 62, -2 ^ 62) is the noon of day 0

abbrev pub wide-end : Float
wide-end = fin false 1 (pos 62)

abbrev pub wide-end-below : Float
wide-end-below = fin true 1 (pos 62)

wide-end-grid : OnWideGrid wide-end
wide-end-grid = record {
  units = pos (2 ^ 62 * 2 ^ 52);
  val = record { sign = false; size = 2 ^ 62 * 2 ^ 52; has = (refl, refl); is = refl };
  high = lit≤ tt;
  low = lit≤ tt;
}

wide-end-below-grid : OnWideGrid wide-end-below
wide-end-below-grid = record {
  units = negsuc (2 ^ 62 * 2 ^ 52 - 1);
  val = record { sign = true; size = 2 ^ 62 * 2 ^ 52; has = (refl, refl); is = refl };
  high = lit≤ tt;
  low = lit≤ tt;
}

pub exact-at-wide-end : day_number_and_fraction wide-end wide-end-below ≡ answer (record { day = pos 0; fraction = half })
unfolding wide-end-grid wide-end-below-grid whole_days units_left fraction_of round fits
exact-at-wide-end = exact-to-2-62 wide-end wide-end-below tt tt wide-end-grid wide-end-below-grid (record { low = lit≤ tt; high = lit≤ tt })
