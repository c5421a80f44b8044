-- What a C caller gets of a run of readings: the code, and the two slices that are written. Written from include/celestial_time.h and docs/DECISIONS.md 24.
-- Assumes nothing.
use Rattle.std.specs.Prelude.{◌≡◌, List, ℕ, ℤ}
use Rattle.c_answers.specs.Delivery.{code}
use Rattle.ticks.specs.places.Places.{PlacesCall}

-- the call returned r, and the places and the numbers are as c says: all their bytes
pub record PlacesDelivered (c : PlacesCall) (r : ℤ) (places numbers : List ℕ) : Type 0 where
  pub returned : r ≡ code c.answer
  pub placed : places ≡ c.out
  pub numbered : numbers ≡ c.numbers
