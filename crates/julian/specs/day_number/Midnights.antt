-- A midnight as the first part of a date, and the day that begins there. Written from document 01, "Julian date": a civil day begins half a day before its
-- Julian Day number. What keeps a day for the dates that follow is stated by it; no public contract cites it. Assumes nothing.
use Rattle.std.specs.Prelude.{◌≡◌, true, ℤ, negsuc, T, Float}
use Rattle.std.specs.Float.{fin, binary64}
use Rattle.std.specs.Float.Ieee.{fits, sub, eq, le, to_signed}
use Rattle.floats.specs.Whole.{one, nearest_int}
use Rattle.julian.specs.day_number.Ranges.{InDays}

-- the day that begins at a midnight
unfoldable pub day_from : Float → ℤ
day_from x = to_signed 63 (nearest_int x)

-- x is a midnight of a day from day 2 on: half a day before its nearest whole number
pub record Midnight (x : Float) : Type 0 where
  pub before_noon : eq (sub binary64 x (nearest_int x)) (fin true 1 (negsuc 0)) ≡ true
  pub late : le one x ≡ true
  pub held : T (fits binary64 x)
  pub in-days : InDays (day_from x)
