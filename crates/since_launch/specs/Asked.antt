-- What the functions below the calls ask and ensure. Assumes nothing.
use Rattle.std.specs.Prelude.{ℕ, ◌*◌, ◌≤◌, ◌≡◌, List, length, Result, Ok, Err}
use Rattle.refusals.specs.declared.Refusal.{Refusal}
use Rattle.refusals.specs.Outcome.{Outcome}
use Rattle.since_launch.specs.declared.Place.{Place}
use Rattle.since_launch.specs.Run.{millis_number_byte, with_millis, with_all, with_millis_numbers, millis_refused}

-- a place that a date can have: day 1000000000 is the last, and no fraction has more units than a day
pub record PlaceWithin (p : Place) : Type 0 where
  pub days : p.days ≤ 1000068570
  pub units : p.units ≤ 4503599627370496

unfoldable pub AllPlaced : Result Place Refusal → Type 0
AllPlaced (Ok p) = PlaceWithin p
AllPlaced (Err k) = Unit {0}

-- n stamps are there, and places for them
pub record RoomForRun (n : ℕ) (js out numbers : List ℕ) : Type 0 where
  pub stamps : 8 * n ≤ length js
  pub places : 8 * n ≤ length out
  pub bytes : n ≤ length numbers

-- the milliseconds o of stamp i are put: r is its number
pub record MillisPut (o : Outcome ℕ) (i : ℕ) (out : List ℕ) (r : ℕ) (out' : List ℕ) : Type 0 where
  pub number : r ≡ millis_number_byte o
  pub bytes : out' ≡ with_millis o i out

-- the milliseconds f 0, f 1, .. of n stamps are put, r of them refused
pub record MillisRunPut (f : ℕ → Outcome ℕ) (n : ℕ) (out numbers : List ℕ) (r : ℕ) (out' numbers' : List ℕ) : Type 0 where
  pub count : r ≡ millis_refused f n
  pub first : out' ≡ with_all f n out
  pub second : numbers' ≡ with_millis_numbers f n numbers
