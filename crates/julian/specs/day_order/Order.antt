-- When one day and fraction is no later than another, and which first parts are whole numbers of half days, as the date of a midnight or of a noon is. Written
-- from document 01, "Day and fraction", over scaled whole numbers: every finite float is a whole number of 2 ^ -1074, of which L are 1.0. Assumes nothing.
use Rattle.std.specs.Prelude.{ℕ, ◌+◌, ◌*◌, ◌≤◌, T, ℤ, Float}
use Rattle.std.specs.Float.{binary64}
use Rattle.std.specs.Float.Ieee.{fits}
use Rattle.rounding.specs.Value.{Val, L, plus_z, minus_z}
use Rattle.julian.specs.declared.day_number.DayNumber.{DayNumber}

-- an f64 that is a whole number of half days
pub record WholeHalves (x : Float) : Type 0 where
  pub held : T (fits binary64 x)
  pub halves : ℤ
  pub val : Val x (plus_z halves) (minus_z halves) 2

-- the exact day + fraction of d is at most that of d'
pub record NoLater (d d' : DayNumber) : Type 0 where
  pub units : ℕ
  pub units' : ℕ
  pub val : Val d.fraction units 0 L
  pub val' : Val d'.fraction units' 0 L
  pub order : plus_z d.day * L + units + minus_z d'.day * L ≤ plus_z d'.day * L + units' + minus_z d.day * L
