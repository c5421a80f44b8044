-- What the functions below the call ask and ensure. Assumes nothing.
use Rattle.std.specs.Prelude.{ℕ, ◌+◌, ◌*◌, ◌≤◌, ◌≡◌, List, length}
use Rattle.refusals.specs.Outcome.{Outcome}
use Rattle.ticks.specs.judging.GoodCalls.{GoodPasses}
use Rattle.ticks.specs.Passes.{Passes}
use Rattle.ticks.specs.places.Places.{placed_reading, number_of, with_place, with_places, with_reading_numbers, without_place}

-- k + 2 passes, a last neighbour, and eight bytes for reading i
pub record HasReading (ps ls : List ℕ) (k j i : ℕ) (out : List ℕ) : Type 0 where
  pub passes : GoodPasses ps ls k
  pub near : j ≤ k
  pub place : 8 * i + 8 ≤ length out

-- reading i at millisecond m is placed: r is its number, and j the neighbour to go on from
pub record ReadingPut (p : Passes) (k number m i : ℕ) (out : List ℕ) (r j : ℕ) (out' : List ℕ) : Type 0 where
  pub is : r ≡ number_of (placed_reading p number m)
  pub near : j ≤ k
  pub place : out' ≡ with_place (placed_reading p number m) i out

-- k + 2 passes and n readings, with a place and a number for each
pub record HasReadings (ps ls : List ℕ) (k : ℕ) (ms : List ℕ) (n : ℕ) (out ns : List ℕ) : Type 0 where
  pub passes : GoodPasses ps ls k
  pub there : 8 * n ≤ length ms
  pub places : 8 * n ≤ length out
  pub bytes : n ≤ length ns

-- the answers f 0, f 1, .. of n readings are put, r of them without a place
pub record ReadingsPut (f : ℕ → Outcome ℕ) (n : ℕ) (out ns : List ℕ) (r : ℕ) (out' ns' : List ℕ) : Type 0 where
  pub count : r ≡ without_place f n
  pub places : out' ≡ with_places f n out
  pub numbers : ns' ≡ with_reading_numbers f n ns
