-- With which scales and lengths a run from scale to scale is answered, and by which number each other call is refused, in plain numbers. Written from
-- include/celestial_time.h, ct_convert_run. Lengths are in bytes: of the parts, of the places for the parts, and of the numbers. Assumes nothing.
use Rattle.std.specs.Prelude.{ℕ, ◌*◌, ◌%◌, ◌≤◌, ◌≡◌}

-- the five scales: UTC, TAI, TT, GPS and TCG
pub data Five : ℕ → Type 0 where
  utc : Five 0
  tai : Five 1
  tt' : Five 3
  gps : Five 4
  tcg : Five 5

-- both scales are of the five; else 18
pub record BothKnown (from to : ℕ) : Type 0 where
  pub first : Five from
  pub second : Five to

-- there are eight bytes for each part of the n dates, and one for each number; else 11
pub record PlacesFor (n room1 room2 room : ℕ) : Type 0 where
  pub first : 8 * n ≤ room1
  pub second : 8 * n ≤ room2
  pub third : n ≤ room

-- the number k of a call, 0 where it is answered: the cases shut each other out, so each number comes exactly there. Lengths of parts that are no multiples of
-- eight are 14, and then such that differ 12
pub data RunDecision (from to size1 size2 room1 room2 room k : ℕ) : Type 0 where
  other_scale : (BothKnown from to → ⊥) → k ≡ 18 → RunDecision from to size1 size2 room1 room2 room k
  broken_parts : BothKnown from to → ((size1 % 8 ≡ 0) × (size2 % 8 ≡ 0) → ⊥) → k ≡ 14 → RunDecision from to size1 size2 room1 room2 room k
  other_sizes : BothKnown from to → size1 % 8 ≡ 0 → size2 % 8 ≡ 0 → (size1 ≡ size2 → ⊥) → k ≡ 12 → RunDecision from to size1 size2 room1 room2 room k
  no_room : BothKnown from to → (n : ℕ) → size1 ≡ 8 * n → size2 ≡ 8 * n → (PlacesFor n room1 room2 room → ⊥) → k ≡ 11
      → RunDecision from to size1 size2 room1 room2 room k
  run_answered : BothKnown from to → (n : ℕ) → size1 ≡ 8 * n → size2 ≡ 8 * n → PlacesFor n room1 room2 room → k ≡ 0
      → RunDecision from to size1 size2 room1 room2 room k
