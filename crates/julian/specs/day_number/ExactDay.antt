-- The exact day and the exact fraction of a two-part Julian date, from its parts alone. Written from document 01, "Day and fraction". On the grid every part,
-- sum and fraction is a whole number of 2 ^ -52 day, and here each is counted in that unit. Assumes nothing.
use Rattle.std.specs.Prelude.{◌≡◌, false, ℕ, ◌+◌, ◌-◌, ◌*◌, ◌/◌, ◌%◌, ◌^◌, ◌≤◌, ◌<◌, ℤ, pos, negsuc, ◌+ℤ◌, Float}
use Rattle.std.specs.Float.{binary64}
use Rattle.std.specs.Float.Ieee.{round}
use Rattle.rounding.specs.Value.{Val, plus_z, minus_z}
use Rattle.julian.specs.declared.day_number.DayNumber.{DayNumber}

-- document 01's grid, for one part: a multiple of 2 ^ -52 day under 2 ^ 52 day in size; `units` is how many
pub record OnGrid (x : Float) : Type 0 where
  pub units : ℤ
  pub val : Val x (plus_z units) (minus_z units) (2 ^ 52)
  pub high : plus_z units < 2 ^ 104
  pub low : minus_z units < 2 ^ 104

-- a wider grid, this project's own: the same multiples up to 2 ^ 62 day in size. From 2 ^ 63 day on the Rust's casts to 64 bits saturate (`saturates`)
pub record OnWideGrid (x : Float) : Type 0 where
  pub units : ℤ
  pub val : Val x (plus_z units) (minus_z units) (2 ^ 52)
  pub high : plus_z units ≤ 2 ^ 62 * 2 ^ 52
  pub low : minus_z units ≤ 2 ^ 62 * 2 ^ 52

-- the exact sum of two parts
abbrev pub grid_sum : {x y : Float} → OnGrid x → OnGrid y → ℤ
grid_sum a b = a.units +ℤ b.units

-- a sum from -68569.5 to 10 ^ 9 days
pub record GridSumInRange (sum : ℤ) : Type 0 where
  pub low : 2 * minus_z sum ≤ 137139 * 2 ^ 52
  pub high : plus_z sum ≤ 1000000000 * 2 ^ 52

-- the whole days in a number of units, downward: -1 unit lies in day -1
unfoldable pub whole_days : ℤ → ℤ
whole_days (pos n) = pos (n / 2 ^ 52)
whole_days (negsuc n) = negsuc (n / 2 ^ 52)

-- the units left over, at least 0 and below one day's 2 ^ 52
unfoldable pub units_left : ℤ → ℕ
units_left (pos n) = n % 2 ^ 52
units_left (negsuc n) = 2 ^ 52 - 1 - n % 2 ^ 52

-- document 01's exact day: the floor of the exact sum plus one half
abbrev pub exact_day : ℤ → ℤ
exact_day sum = whole_days (sum +ℤ pos (2 ^ 51))

-- document 01's exact fraction: what is left
abbrev pub exact_fraction : ℤ → ℕ
exact_fraction sum = units_left (sum +ℤ pos (2 ^ 51))

-- the float worth that many units; of none it is +0.0
unfoldable pub fraction_of : ℕ → Float
unfolding round
fraction_of units = round binary64 false units (2 ^ 52)

-- the exact day with the exact fraction
abbrev pub exact_day_number : ℤ → DayNumber
exact_day_number sum = record { day = exact_day sum; fraction = fraction_of (exact_fraction sum) }

-- what floor and rest mean: sum + 1/2 is `day` days and `units` units, which are less than a day
pub record DayAt (sum day : ℤ) (units : ℕ) : Type 0 where
  pub below : units < 2 ^ 52
  pub total : plus_z sum + 2 ^ 51 + minus_z day * 2 ^ 52 ≡ minus_z sum + plus_z day * 2 ^ 52 + units
