-- The lengths with which the dates of a run of texts are read, and a list of texts laid out as the call takes them. Written from include/celestial_time.h.
-- Assumes nothing.
use Rattle.std.specs.Prelude.{ℕ, ◌*◌, ◌≤◌, ◌<◌, ◌≡◌, List, [], ◌++◌, length, get_or, take}
use Rattle.numerals.specs.little_endian.Written.{all_bytes}

-- the lengths in bytes with which a call on n texts is answered: of the texts, of their lengths, and of the places for the two parts and the numbers
pub record DatesDue (n size1 size2 room1 room2 room3 : ℕ) : Type 0 where
  pub texts : size1 ≡ 27 * n
  pub lengths : size2 ≡ n
  pub places1 : 8 * n ≤ room1
  pub places2 : 8 * n ≤ room2
  pub bytes : n ≤ room3

-- each text at the start of a place of 27 bytes, with any bytes behind it
abbrev pub laid_out : List ℕ → List (List ℕ) → List ℕ
laid_out filling ts = all_bytes (λ (t : List ℕ). take 27 (t ++ filling)) ts

-- each text has its place
abbrev pub InPlaces : List (List ℕ) → Type 0
InPlaces ts = (i : ℕ) → i < length ts → length (get_or ts i []) ≤ 27
