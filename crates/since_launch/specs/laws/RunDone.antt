-- What a run leaves of one stamp: its number, 0 or that of its refusal, and the bytes of its milliseconds or those that stood there. Written from
-- include/celestial_time.h. Assumes nothing.
use Rattle.std.specs.Prelude.{ℕ, zero, suc, ◌+◌, ◌*◌, ◌<◌, ◌≤◌, ◌≡◌, cond, List, eqb, get_or}
use Rattle.refusals.specs.Outcome.{Outcome, answer, refusal}
use Rattle.numerals.specs.little_endian.LittleEndian.{eight_bytes}
use Rattle.since_launch.specs.Run.{MillisCall}

-- the stamp at place i, whose milliseconds are o, after the call c; before it the places held `out`
pub record MillisDone (o : Outcome ℕ) (i : ℕ) (out : List ℕ) (c : MillisCall) : Type 0 where
  pub answered : (m : ℕ) → o ≡ answer m → get_or c.numbers i 0 ≡ 0
  pub numbered : (n : ℕ) → o ≡ refusal n → get_or c.numbers i 0 ≡ n
  pub written : (m : ℕ) → o ≡ answer m → (k : ℕ) → k < 8 → get_or c.out (8 * i + k) 0 ≡ get_or (eight_bytes m) k 0
  pub stays : (n : ℕ) → o ≡ refusal n → (k : ℕ) → k < 8 → get_or c.out (8 * i + k) 0 ≡ get_or out (8 * i + k) 0

-- what lies behind the places of n stamps is as it was
pub record MillisSpareStays (n : ℕ) (out numbers : List ℕ) (c : MillisCall) : Type 0 where
  pub first : (j : ℕ) → 8 * n ≤ j → get_or c.out j 0 ≡ get_or out j 0
  pub second : (j : ℕ) → n ≤ j → get_or c.numbers j 0 ≡ get_or numbers j 0

-- how many of the first n numbers are not 0
unfoldable pub millis_not_zero : ℕ → List ℕ → ℕ
millis_not_zero zero l = 0
millis_not_zero (suc n) l = millis_not_zero n l + cond (eqb (get_or l n 0) 0) 0 1

-- the lengths in bytes with which a call on n stamps is answered
pub record RunLengthsDue (n size1 size2 room1 room2 : ℕ) : Type 0 where
  pub first : size1 ≡ 8 * n
  pub second : size2 ≡ 8 * n
  pub places : 8 * n ≤ room1
  pub bytes : n ≤ room2
