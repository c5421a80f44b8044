-- What is asked of a call's lists, step by step in the order of the refusals, said of their numbers one by one and apart from the tests of ticks; and what a
-- call that answers has written. Written from document 02, item 10: "11 for fewer result places than ticks; 23 for unequal, too few or too many passes or too
-- large a number in them; 24 for passes not strictly rising in both; 25 for a tick outside them". Assumes nothing.
use Rattle.std.specs.Prelude.{ℕ, ◌+◌, ◌*◌, ◌/◌, ◌%◌, ◌≤◌, ◌<◌, ◌≡◌, ◌↔◌, List, length, drop, Result, Ok}
use Rattle.refusals.specs.declared.Refusal.{Refusal}
use Rattle.refusals.specs.Outcome.{refusal, outcome}
use Rattle.ticks.specs.Passes.{millis_between}
use Rattle.ticks.specs.judging.Refusing.{number_at, numbers_in}
use Rattle.ticks.specs.Ticks.{passes_of}
use Rattle.ticks.specs.laws.Sound.{Inside, JustBelow}

-- the lists are made of numbers of eight bytes; else 14
pub record WholeLists (ps ms ts : List ℕ) : Type 0 where
  pub passes : length ps % 8 ≡ 0
  pub millis : length ms % 8 ≡ 0
  pub ticks : length ts % 8 ≡ 0

-- every tick has a place for its result; else 11
abbrev pub HasPlaces : List ℕ → ℕ → Type 0
HasPlaces ts room = numbers_in ts ≤ room / 8

-- as many milliseconds as ticks, 2 to 2,000, all below 2^40; else 23
pub record UsablePasses (ps ms : List ℕ) : Type 0 where
  pub equal : numbers_in ps ≡ numbers_in ms
  pub two : 2 ≤ numbers_in ps
  pub most : numbers_in ps ≤ 2000
  pub ticks_small : (i : ℕ) → i < numbers_in ps → number_at ps i < 0x100_0000_0000
  pub millis_small : (i : ℕ) → i < numbers_in ps → number_at ms i < 0x100_0000_0000

-- both rise strictly; else 24
pub record RisingPasses (ps ms : List ℕ) : Type 0 where
  pub ticks_rise : (i : ℕ) → i + 1 < numbers_in ps → number_at ps i < number_at ps (i + 1)
  pub millis-rise : (i : ℕ) → i + 1 < numbers_in ps → number_at ms i < number_at ms (i + 1)

-- every tick lies from the first pass to the last; else 25
abbrev pub TicksInside : List ℕ → List ℕ → List ℕ → Type 0
TicksInside ps ms ts = (i : ℕ) → i < numbers_in ts → Inside (passes_of ps ms) (number_at ts i)

-- r is each refusal exactly where its reason holds and none before it, and the answer exactly where none holds
pub record ExactlyWhen (ps ms ts : List ℕ) (room : ℕ) (r : Result ℕ Refusal) : Type 0 where
  pub is_14 : (outcome r ≡ refusal 14) ↔ (WholeLists ps ms ts → ⊥)
  pub is_11 : (outcome r ≡ refusal 11) ↔ (WholeLists ps ms ts × (HasPlaces ts room → ⊥))
  pub is_23 : (outcome r ≡ refusal 23) ↔ (WholeLists ps ms ts × HasPlaces ts room × (UsablePasses ps ms → ⊥))
  pub is_24 : (outcome r ≡ refusal 24) ↔ (WholeLists ps ms ts × HasPlaces ts room × UsablePasses ps ms × (RisingPasses ps ms → ⊥))
  pub is_25 : (outcome r ≡ refusal 25) ↔ (WholeLists ps ms ts × HasPlaces ts room × UsablePasses ps ms × RisingPasses ps ms × (TicksInside ps ms ts → ⊥))
  pub is_answer : (r ≡ Ok (length ts)) ↔ (WholeLists ps ms ts × HasPlaces ts room × UsablePasses ps ms × RisingPasses ps ms × TicksInside ps ms ts)

-- The results in the lent list, which held `before`: each is on the line of any two neighbours that hold its tick, rounded down; at a pass it is the pass's
-- millisecond; a later tick's is never earlier; each is less than 1 ms below the exact line; and the bytes behind them stay.
pub record PlacedRight (ps ms ts before after : List ℕ) : Type 0 where
  pub as_long : length after ≡ length before
  pub spare : drop (8 * numbers_in ts) after ≡ drop (8 * numbers_in ts) before
  pub on_any_line : (i j : ℕ) → i < numbers_in ts → j + 1 < numbers_in ps → number_at ps j ≤ number_at ts i → number_at ts i ≤ number_at ps (j + 1)
      → number_at after i ≡ millis_between (passes_of ps ms) j (number_at ts i)
  pub at_passes : (i j : ℕ) → i < numbers_in ts → j < numbers_in ps → number_at ts i ≡ number_at ps j → number_at after i ≡ number_at ms j
  pub in_order : (i i' : ℕ) → i < numbers_in ts → i' < numbers_in ts → number_at ts i ≤ number_at ts i' → number_at after i ≤ number_at after i'
  pub near_line : (i : ℕ) → i < numbers_in ts → JustBelow (passes_of ps ms) (number_at ts i) (number_at after i)

-- the whole call: its answer, and the lent list before and after
pub record TicksMeaning (ps ms ts before : List ℕ) (r : Result ℕ Refusal) (after : List ℕ) : Type 0 where
  pub decided : ExactlyWhen ps ms ts (length before) r
  pub refused : (n : ℕ) → outcome r ≡ refusal n → after ≡ before
  pub placed : r ≡ Ok (length ts) → PlacedRight ps ms ts before after

-- answered, the results are right
abbrev pub PlacedWhole : List ℕ → List ℕ → List ℕ → List ℕ → Result ℕ Refusal → List ℕ → Type 0
PlacedWhole ps ms ts before r after = r ≡ Ok (length ts) → PlacedRight ps ms ts before after

-- each refusal comes exactly where it is due, and nothing is written
abbrev pub RefusedWhole : List ℕ → List ℕ → List ℕ → List ℕ → Result ℕ Refusal → List ℕ → Type 0
RefusedWhole ps ms ts before r after = ExactlyWhen ps ms ts (length before) r × ((n : ℕ) → outcome r ≡ refusal n → after ≡ before)
