-- What a list of dates in order asks of two of them, apart from the three answers of `comparison`: whether a date has a place in the order, and whether one
-- comes before another. This project's own, as the order is. Assumes nothing.
use Rattle.std.specs.Prelude.{Bool}
use Rattle.std.specs.Float.Ieee.Scale.{finite}
use Rattle.julian.specs.declared.JulianDate.{JulianDate}
use Rattle.julian.specs.Equality.{sums}
use Rattle.julian.specs.order.Order.{sooner}

-- its two-sum is finite, and so are its parts
abbrev pub has_place : JulianDate → Bool
has_place d = finite (sums d).error

-- of dates that have a place, the one with the smaller exact sum
unfoldable pub is_earlier : JulianDate → JulianDate → Bool
is_earlier d e = sooner (sums d) (sums e)
