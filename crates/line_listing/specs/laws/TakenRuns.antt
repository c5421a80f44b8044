-- A run written from lists of stamps, block by block, and when a run is taken. The writer of a block is that of stamps::listing_laws, from document 01's "Stamp
-- block"; the refusals and their order are from include/celestial_time.h, ct_take_run. Assumes nothing.
use Rattle.std.specs.Prelude.{◌≡◌, ℕ, ◌<◌, ◌≤◌, List, [], ◌∷◌, ◌++◌, length, slice_index_or}
use Rattle.refusals.specs.Outcome.{Outcome, answer, refusal}
use Rattle.numerals.specs.little_endian.Written.{all_bytes}
use Rattle.leap_table.specs.rows.Table.{Row}
use Rattle.stamps.specs.listing_laws.Writer.{Stamp, StampFits, block_bytes}
use Rattle.runs.specs.laws.Answered.{Five, PlacesFor}

-- the bytes of lists of stamps, a block for each
abbrev pub run_bytes : List (List Stamp) → List ℕ
run_bytes xss = all_bytes block_bytes xss

-- all stamps in their order, and how many each list has
unfoldable pub all_stamps : List (List Stamp) → List Stamp
all_stamps [] = []
all_stamps (xs ∷ xss) = xs ++ all_stamps xss

unfoldable pub counts : List (List Stamp) → List ℕ
counts [] = []
counts (xs ∷ xss) = length xs ∷ counts xss

-- each list is of at most 4,000 stamps
pub data EachFits : List (List Stamp) → Type 0 where
  none : EachFits []
  more : {xs : List Stamp} {xss : List (List Stamp)} → length xs ≤ 4000 → EachFits xss → EachFits (xs ∷ xss)

-- each part is of 64 bits
abbrev pub AllFit : List Stamp → Type 0
AllFit xs = (i : ℕ) (d : Stamp) → i < length xs → StampFits (slice_index_or xs i d)

-- what becomes of a call for a run of n stamps with these lengths in bytes: the cases shut each other out, so each number comes exactly there
pub data TakeDecision (table : Outcome (List Row)) (scale n room1 room2 room : ℕ) (o : Outcome ℕ) : Type 0 where
  table-first : (k : ℕ) → table ≡ refusal k → o ≡ refusal k → TakeDecision table scale n room1 room2 room o
  other_scale : (rows : List Row) → table ≡ answer rows → (Five scale → ⊥) → o ≡ refusal 18 → TakeDecision table scale n room1 room2 room o
  no_room : (rows : List Row) → table ≡ answer rows → Five scale → (PlacesFor n room1 room2 room → ⊥) → o ≡ refusal 11
      → TakeDecision table scale n room1 room2 room o
  run-taken : (rows : List Row) → table ≡ answer rows → Five scale → PlacesFor n room1 room2 room → (count : ℕ) → o ≡ answer count
      → TakeDecision table scale n room1 room2 room o
