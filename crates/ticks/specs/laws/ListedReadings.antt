-- Passes and readings as lists of numbers of 64 bits, and what a caller reads off the lent lists: apart from what reads and writes the bytes. From
-- include/celestial_time.h, ct_place_readings: number i of a list is the eight bytes from 8 i on, the lowest first. Assumes nothing.
use Rattle.std.specs.Prelude.{ℕ, ◌*◌, ◌≤◌, ◌<◌, ◌≡◌, ◌↔◌, List, length, get_or, take, drop, Result, Ok}
use Rattle.refusals.specs.declared.Refusal.{Refusal}
use Rattle.refusals.specs.Outcome.{refusal, outcome}
use Rattle.numerals.specs.little_endian.LittleEndian.{u64_at}
use Rattle.ticks.specs.Passes.{millis_at}
use Rattle.ticks.specs.laws.Sound.{Sound, Inside}
use Rattle.ticks.specs.laws.Writer.{listed_passes}
use Rattle.ticks.specs.laws.Readings.{not_zeros}

-- nothing is refused of these lists and so many bytes of room
pub record ListedPlacing (ps ls ms ns : List ℕ) (room : ℕ) : Type 0 where
  pub numbers : length ms ≡ length ns
  pub places : 8 * length ms ≤ room
  pub equal : length ps ≡ length ls
  pub sound : Sound (listed_passes ps ls)

-- Reading i of an answered call: one that came with a number keeps it; one inside the passes has its millimetre in the eight bytes from 8 i on; one outside has
-- 25; without a place the eight bytes stay.
pub record ListedReading (ps ls ms ns before ns' after : List ℕ) (i : ℕ) : Type 0 where
  pub kept : (get_or ns i 0 ≡ 0 → ⊥) → (get_or ns' i 0 ≡ get_or ns i 0) × (take 8 (drop (8 * i) after) ≡ take 8 (drop (8 * i) before))
  pub outside : get_or ns i 0 ≡ 0 → (Inside (listed_passes ps ls) (get_or ms i 0) → ⊥) → (get_or ns' i 0 ≡ 25)
      × (take 8 (drop (8 * i) after) ≡ take 8 (drop (8 * i) before))
  pub placed : get_or ns i 0 ≡ 0 → Inside (listed_passes ps ls) (get_or ms i 0) → (get_or ns' i 0 ≡ 0)
      × (u64_at after (8 * i) ≡ millis_at (listed_passes ps ls) (get_or ms i 0))

-- The call over these lists: answered exactly where nothing is refused, by how many numbers are not 0 after it; refused, both lent lists stay; and the bytes
-- behind the places stay.
pub record ListedReadings (ps ls ms ns before : List ℕ) (r : Result ℕ Refusal) (ns' after : List ℕ) : Type 0 where
  pub answered : (r ≡ Ok (not_zeros ns')) ↔ ListedPlacing ps ls ms ns (length before)
  pub stays : (n : ℕ) → outcome r ≡ refusal n → (ns' ≡ ns) × (after ≡ before)
  pub each : (n : ℕ) → r ≡ Ok n → (i : ℕ) → i < length ms → ListedReading ps ls ms ns before ns' after i
  pub spare : (n : ℕ) → r ≡ Ok n → drop (8 * length ms) after ≡ drop (8 * length ms) before
