-- Passes and ticks as lists of numbers of 64 bits, and what a caller reads off the lent list: apart from what reads and writes the bytes. From document 02,
-- item 10, and include/celestial_time.h, ct_place_ticks: number i of a list is the eight bytes from 8 i on, the lowest first. Assumes nothing.
use Rattle.std.specs.Prelude.{ℕ, zero, suc, ◌*◌, ◌≤◌, ◌<◌, ◌≡◌, ◌↔◌, List, [], ◌∷◌, length, get_or, drop, Result, Ok}
use Rattle.refusals.specs.declared.Refusal.{Refusal}
use Rattle.refusals.specs.Outcome.{refusal, outcome}
use Rattle.numerals.specs.little_endian.LittleEndian.{u64_at}
use Rattle.ticks.specs.Passes.{Passes, millis_at}
use Rattle.ticks.specs.laws.Sound.{Sound, Inside}

-- pass i has the i-th tick number and the i-th millisecond
abbrev pub listed_passes : List ℕ → List ℕ → Passes
listed_passes ps ms = record { size = length ps; tick = λ (i : ℕ). get_or ps i 0; milli = λ (i : ℕ). get_or ms i 0 }

-- nothing is refused of these lists and so many bytes of room
pub record ListedGood (ps ms ts : List ℕ) (room : ℕ) : Type 0 where
  pub places : 8 * length ts ≤ room
  pub equal : length ps ≡ length ms
  pub sound : Sound (listed_passes ps ms)
  pub inside : (i : ℕ) → i < length ts → Inside (listed_passes ps ms) (get_or ts i 0)

-- The call over these lists: answered exactly where nothing is refused; refused, the lent list, which held `before`, stays; answered, the eight bytes from 8 i
-- on read back as the millisecond of the i-th tick, for every i, and the bytes behind them stay.
pub record ListedTicks (ps ms ts before : List ℕ) (r : Result ℕ Refusal) (after : List ℕ) : Type 0 where
  pub answered : (r ≡ Ok (8 * length ts)) ↔ ListedGood ps ms ts (length before)
  pub stays : (n : ℕ) → outcome r ≡ refusal n → after ≡ before
  pub each : r ≡ Ok (8 * length ts) → (i : ℕ) → i < length ts → u64_at after (8 * i) ≡ millis_at (listed_passes ps ms) (get_or ts i 0)
  pub spare : r ≡ Ok (8 * length ts) → drop (8 * length ts) after ≡ drop (8 * length ts) before

-- a, a + 1, .. a + n - 1
unfoldable pub count_up : ℕ → ℕ → List ℕ
count_up a zero = []
count_up a (suc n) = a ∷ count_up (suc a) n
