-- What is asked of a call that places readings, step by step in the order of the refusals, and what it leaves of each reading, said of the numbers one by one
-- and apart from the tests of ticks::places. Pass j has its millisecond in `ps` and its millimetre in `ls`; `ns` and `ns'` are the numbers of the readings
-- before and after the call. Written from the customer's words: "a run of milliseconds in, millimetres out, a number for each (25 outside the passes, as an
-- answer of that reading and not of the call). By item 10's own definition of the line between two passes: exact at a pass, never backwards, less than 1 mm
-- below the line", and from include/celestial_time.h, ct_place_readings. Assumes nothing.
use Rattle.std.specs.Prelude.{ℕ, zero, suc, ◌+◌, ◌*◌, ◌≤◌, ◌<◌, ◌≡◌, ◌↔◌, List, [], ◌∷◌, length, get_or, take, drop, Result, Ok}
use Rattle.refusals.specs.declared.Refusal.{Refusal}
use Rattle.refusals.specs.Outcome.{refusal, outcome}
use Rattle.ticks.specs.Passes.{millis_between}
use Rattle.ticks.specs.judging.Refusing.{number_at, numbers_in}
use Rattle.ticks.specs.Ticks.{passes_of}
use Rattle.ticks.specs.laws.Sound.{Inside, JustBelow}
use Rattle.ticks.specs.laws.Reasons.{WholeLists, HasPlaces, UsablePasses, RisingPasses}

-- how many numbers of a list are not 0
unfoldable pub not_zeros : List ℕ → ℕ
not_zeros [] = 0
not_zeros (zero ∷ ns) = not_zeros ns
not_zeros (suc n ∷ ns) = suc (not_zeros ns)

-- there is a number for each reading; else 12
abbrev pub NumberEach : List ℕ → List ℕ → Type 0
NumberEach ms ns = numbers_in ms ≡ length ns

-- r is each refusal exactly where its reason holds and none before it, and the answer, so many readings without a place, exactly where none holds
pub record PlacedExactlyWhen (ps ls ms ns : List ℕ) (room without : ℕ) (r : Result ℕ Refusal) : Type 0 where
  pub is_14 : (outcome r ≡ refusal 14) ↔ (WholeLists ps ls ms → ⊥)
  pub is_12 : (outcome r ≡ refusal 12) ↔ (WholeLists ps ls ms × (NumberEach ms ns → ⊥))
  pub is_11 : (outcome r ≡ refusal 11) ↔ (WholeLists ps ls ms × NumberEach ms ns × (HasPlaces ms room → ⊥))
  pub is_23 : (outcome r ≡ refusal 23) ↔ (WholeLists ps ls ms × NumberEach ms ns × HasPlaces ms room × (UsablePasses ps ls → ⊥))
  pub is_24 : (outcome r ≡ refusal 24) ↔ (WholeLists ps ls ms × NumberEach ms ns × HasPlaces ms room × UsablePasses ps ls × (RisingPasses ps ls → ⊥))
  pub is_answer : (r ≡ Ok without) ↔ (WholeLists ps ls ms × NumberEach ms ns × HasPlaces ms room × UsablePasses ps ls × RisingPasses ps ls)

-- Reading i: a number that it came with stays; of the others 25 is exactly for one outside the passes, and 0 exactly for one inside; without a place its eight
-- bytes stay.
pub record ReadingNumber (ps ls ms ns before ns' after : List ℕ) (i : ℕ) : Type 0 where
  pub kept : (get_or ns i 0 ≡ 0 → ⊥) → get_or ns' i 0 ≡ get_or ns i 0
  pub is_25 : get_or ns i 0 ≡ 0 → (get_or ns' i 0 ≡ 25) ↔ (Inside (passes_of ps ls) (number_at ms i) → ⊥)
  pub is_0 : (get_or ns' i 0 ≡ 0) ↔ ((get_or ns i 0 ≡ 0) × Inside (passes_of ps ls) (number_at ms i))
  pub stays : (get_or ns' i 0 ≡ 0 → ⊥) → take 8 (drop (8 * i) after) ≡ take 8 (drop (8 * i) before)

-- reading i has a place
pub record IsPlaced (ms ns' : List ℕ) (i : ℕ) : Type 0 where
  pub there : i < numbers_in ms
  pub none : get_or ns' i 0 ≡ 0

-- The places in the lent list, which held `before`: each is on the line of any two neighbours that hold its millisecond, rounded down; at a pass it is the
-- pass's millimetre; a later reading's is never further back; each is less than 1 mm below the exact line; and what lies behind them stays.
pub record ReadingsRight (ps ls ms ns before ns' after : List ℕ) : Type 0 where
  pub as_long : length after ≡ length before
  pub numbers_as_long : length ns' ≡ length ns
  pub spare : drop (8 * numbers_in ms) after ≡ drop (8 * numbers_in ms) before
  pub each : (i : ℕ) → i < numbers_in ms → ReadingNumber ps ls ms ns before ns' after i
  pub on_any_line : (i j : ℕ) → IsPlaced ms ns' i → j + 1 < numbers_in ps → number_at ps j ≤ number_at ms i → number_at ms i ≤ number_at ps (j + 1)
      → number_at after i ≡ millis_between (passes_of ps ls) j (number_at ms i)
  pub at_passes : (i j : ℕ) → IsPlaced ms ns' i → j < numbers_in ps → number_at ms i ≡ number_at ps j → number_at after i ≡ number_at ls j
  pub in_order : (i i' : ℕ) → IsPlaced ms ns' i → IsPlaced ms ns' i' → number_at ms i ≤ number_at ms i' → number_at after i ≤ number_at after i'
  pub near_line : (i : ℕ) → IsPlaced ms ns' i → JustBelow (passes_of ps ls) (number_at ms i) (number_at after i)

-- the whole call: its answer, the count of the numbers that are not 0, and the lent lists before and after
pub record ReadingsMeaning (ps ls ms ns before : List ℕ) (r : Result ℕ Refusal) (ns' after : List ℕ) : Type 0 where
  pub decided : PlacedExactlyWhen ps ls ms ns (length before) (not_zeros ns') r
  pub refused : (n : ℕ) → outcome r ≡ refusal n → (ns' ≡ ns) × (after ≡ before)
  pub placed : (n : ℕ) → r ≡ Ok n → (n ≡ not_zeros ns') × ReadingsRight ps ls ms ns before ns' after
