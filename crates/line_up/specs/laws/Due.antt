-- With which lengths the stamps are lined up, and by which number each other call is refused, in plain numbers. Written from include/celestial_time.h,
-- ct_line_up. Lengths are in bytes: of the parts, of the places and of the two work areas; there are n numbers, and the first two runs have `first` and
-- `second` stamps. Assumes nothing.
use Rattle.std.specs.Prelude.{ℕ, ◌+◌, ◌*◌, ◌%◌, ◌<◌, ◌≤◌, ◌≡◌}

-- both lengths of parts are multiples of eight; else 14
pub record WholeParts (size1 size2 : ℕ) : Type 0 where
  pub first : size1 % 8 ≡ 0
  pub second : size2 % 8 ≡ 0

-- there are eight bytes of each part for each number; else 12
pub record PartsEach (size1 size2 n : ℕ) : Type 0 where
  pub first : size1 ≡ 8 * n
  pub second : size2 ≡ 8 * n

-- there are four bytes for each number, for its place and in both work areas; else 11
pub record RoomEach (n out tails ranks : ℕ) : Type 0 where
  pub places : 4 * n ≤ out
  pub work1 : 4 * n ≤ tails
  pub work2 : 4 * n ≤ ranks

-- the number k of a call, 0 where it is answered: the cases shut each other out, so each number comes exactly there
pub data LineDecision (size1 size2 n first second out tails ranks k : ℕ) : Type 0 where
  broken_parts : (WholeParts size1 size2 → ⊥) → k ≡ 14 → LineDecision size1 size2 n first second out tails ranks k
  other_sizes : WholeParts size1 size2 → (PartsEach size1 size2 n → ⊥) → k ≡ 12 → LineDecision size1 size2 n first second out tails ranks k
  runs_past : PartsEach size1 size2 n → n < first + second → k ≡ 14 → LineDecision size1 size2 n first second out tails ranks k
  past_four_bytes : PartsEach size1 size2 n → first + second ≤ n → 4294967295 < n → k ≡ 13 → LineDecision size1 size2 n first second out tails ranks k
  no_room : PartsEach size1 size2 n → first + second ≤ n → n ≤ 4294967295 → (RoomEach n out tails ranks → ⊥) → k ≡ 11
      → LineDecision size1 size2 n first second out tails ranks k
  lined : PartsEach size1 size2 n → first + second ≤ n → n ≤ 4294967295 → RoomEach n out tails ranks → k ≡ 0
      → LineDecision size1 size2 n first second out tails ranks k

-- the lengths with which a call is answered
pub record LineDue (size1 size2 n first second out tails ranks : ℕ) : Type 0 where
  pub parts : PartsEach size1 size2 n
  pub runs : first + second ≤ n
  pub most : n ≤ 4294967295
  pub room : RoomEach n out tails ranks
