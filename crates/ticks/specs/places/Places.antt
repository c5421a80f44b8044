-- A run of readings between marker passes: the place of each, or its number, and what the two lent lists hold after the call. Written from the customer's words
-- ("passes as item 10 has them, a TAI millisecond and the marker's place in millimetres along the pipe; a run of milliseconds in, millimetres out, a number for
-- each (25 outside the passes, as an answer of that reading and not of the call). By item 10's own definition of the line between two passes") and from
-- document 02, item 10. Refusals of the call by documents 01's and 02's numbers: 14 a broken length, 12 sizes that differ, 11 too few places, 23 and 24 as item
-- 10. Assumes nothing.
use Rattle.std.specs.Prelude.{ℕ, zero, suc, ◌+◌, ◌-◌, ◌*◌, ◌/◌, Bool, cond, ◌&&◌, List, eqb, leb, length, get_or, set}
use Rattle.std.proofs.lemmas.List.Edits.{sets}
use Rattle.refusals.specs.Outcome.{Outcome, answer, refusal}
use Rattle.numerals.specs.little_endian.LittleEndian.{eight_bytes}
use Rattle.ticks.specs.judging.Refusing.{number_at, numbers_in, whole_numbers, passes_refusal}
use Rattle.ticks.specs.Passes.{Passes, millis_at}
use Rattle.ticks.specs.Ticks.{passes_of}

-- ---- one reading. Pass i has its millisecond in the place of item 10's tick, and its millimetre in the place of item 10's millisecond

unfoldable pub within : Passes → ℕ → Bool
within p m = leb (p.tick 0) m && leb m (p.tick (p.size - 1))

-- the place of the reading at millisecond m, which comes with this number: one other than 0 stays, and outside the passes it is 25
unfoldable pub placed_reading : Passes → ℕ → ℕ → Outcome ℕ
placed_reading p number m = cond (eqb number 0) (cond (within p m) (answer (millis_at p m)) (refusal 25)) (refusal number)

-- its number after the call
unfoldable pub number_of : Outcome ℕ → ℕ
number_of (answer place) = 0
number_of (refusal k) = k

-- its place in its eight bytes; without a place they stay
unfoldable pub with_place : Outcome ℕ → ℕ → List ℕ → List ℕ
with_place (answer place) i l = sets l (8 * i) (eight_bytes place)
with_place (refusal k) i l = l

-- ---- the first n readings, whose answers are f 0, f 1, ..

unfoldable pub with_places : (ℕ → Outcome ℕ) → ℕ → List ℕ → List ℕ
with_places f zero l = l
with_places f (suc k) l = with_place (f k) k (with_places f k l)

unfoldable pub with_reading_numbers : (ℕ → Outcome ℕ) → ℕ → List ℕ → List ℕ
with_reading_numbers f zero l = l
with_reading_numbers f (suc k) l = set (with_reading_numbers f k l) k (number_of (f k))

-- how many have no place
unfoldable pub without_place : (ℕ → Outcome ℕ) → ℕ → ℕ
without_place f zero = 0
without_place f (suc k) = without_place f k + cond (eqb (number_of (f k)) 0) 0 1

-- ---- the call

-- the answer of the reading at place i: the passes as two lists, the milliseconds, and the numbers that the readings come with
abbrev pub reading_at : List ℕ → List ℕ → List ℕ → List ℕ → ℕ → Outcome ℕ
reading_at ps ls ms ns i = placed_reading (passes_of ps ls) (get_or ns i 0) (number_at ms i)

-- the number of the refusal for these lists, so many numbers of readings and so many bytes of room, or 0
unfoldable pub places_refusal : List ℕ → List ℕ → List ℕ → ℕ → ℕ → ℕ
places_refusal ps ls ms count room =
    cond (whole_numbers ps && (whole_numbers ls && whole_numbers ms))
    (cond (eqb (numbers_in ms) count)
    (cond (leb (numbers_in ms) (room / 8))
    (passes_refusal ps ls)
    11)
    12)
    14

-- the answer, and what is left in the two lists that are written
pub record PlacesCall : Type 0 where
  pub answer : Outcome ℕ
  pub out : List ℕ
  pub numbers : List ℕ

abbrev pub places_call : Outcome ℕ → List ℕ → List ℕ → PlacesCall
places_call o out numbers = record { answer = o; out = out; numbers = numbers }

-- n readings with these answers
unfoldable pub readings_written : (ℕ → Outcome ℕ) → ℕ → List ℕ → List ℕ → PlacesCall
readings_written f n out ns = places_call (answer (without_place f n)) (with_places f n out) (with_reading_numbers f n ns)

unfoldable pub placed_run : List ℕ → List ℕ → List ℕ → List ℕ → List ℕ → PlacesCall
placed_run ps ls ms out ns =
    cond (eqb (places_refusal ps ls ms (length ns) (length out)) 0)
    (readings_written (reading_at ps ls ms ns) (numbers_in ms) out ns)
    (places_call (refusal (places_refusal ps ls ms (length ns) (length out))) out ns)
