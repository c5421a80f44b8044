-- What the texts of a run leave of one stamp, how many numbers are not 0, a stamp that is not finite, and the lengths with which the call is answered. Written
-- from include/celestial_time.h. Assumes nothing.
use Rattle.std.specs.Prelude.{ℕ, zero, suc, ◌+◌, ◌*◌, ◌<◌, ◌≤◌, ◌≡◌, ◌⊎◌, cond, List, eqb, length, get_or}
use Rattle.refusals.specs.Outcome.{Outcome, answer, refusal}
use Rattle.floats.specs.ExponentField.{exponent_field}
use Rattle.numerals.specs.little_endian.LittleEndian.{u64_at}
use Rattle.utc.specs.run_texts.RunTexts.{TextsCall}

-- the stamp at place i, whose text is o, after the call c; before it the places held `texts`
pub record TextDone (o : Outcome (List ℕ)) (i : ℕ) (texts : List ℕ) (c : TextsCall) : Type 0 where
  pub measured : (t : List ℕ) → o ≡ answer t → get_or c.lengths i 0 ≡ length t
  pub answered : (t : List ℕ) → o ≡ answer t → get_or c.numbers i 0 ≡ 0
  pub written : (t : List ℕ) → o ≡ answer t → (k : ℕ) → k < length t → get_or c.texts (27 * i + k) 0 ≡ get_or t k 0
  pub behind : (t : List ℕ) → o ≡ answer t → (k : ℕ) → length t ≤ k → k < 27 → get_or c.texts (27 * i + k) 0 ≡ get_or texts (27 * i + k) 0
  pub empty : (n : ℕ) → o ≡ refusal n → get_or c.lengths i 0 ≡ 0
  pub numbered : (n : ℕ) → o ≡ refusal n → get_or c.numbers i 0 ≡ n
  pub stays : (n : ℕ) → o ≡ refusal n → (k : ℕ) → k < 27 → get_or c.texts (27 * i + k) 0 ≡ get_or texts (27 * i + k) 0

-- what lies behind the places of n stamps is as it was
pub record BehindStays (n : ℕ) (texts lengths numbers : List ℕ) (c : TextsCall) : Type 0 where
  pub first : (j : ℕ) → 27 * n ≤ j → get_or c.texts j 0 ≡ get_or texts j 0
  pub second : (j : ℕ) → n ≤ j → get_or c.lengths j 0 ≡ get_or lengths j 0
  pub third : (j : ℕ) → n ≤ j → get_or c.numbers j 0 ≡ get_or numbers j 0

-- how many of the first n numbers are not 0
unfoldable pub numbers_not_zero : ℕ → List ℕ → ℕ
numbers_not_zero zero l = 0
numbers_not_zero (suc n) l = numbers_not_zero n l + cond (eqb (get_or l n 0) 0) 0 1

-- a part of the stamp at place i has the exponent field all ones: an infinity or a NaN of any sign and payload (IEEE 754)
abbrev pub StampPartNotFinite : List ℕ → List ℕ → ℕ → Type 0
StampPartNotFinite js ks i = (exponent_field (u64_at js (8 * i)) ≡ 2047) ⊎ (exponent_field (u64_at ks (8 * i)) ≡ 2047)

-- the lengths in bytes with which a call on n stamps is answered
pub record TextsDue (n size1 size2 room1 room2 room3 : ℕ) : Type 0 where
  pub first : size1 ≡ 8 * n
  pub second : size2 ≡ 8 * n
  pub places : 27 * n ≤ room1
  pub bytes : n ≤ room2
  pub bytes2 : n ≤ room3
