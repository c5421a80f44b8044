-- Readings and runs that pin a rule each, computed from the definitions: a reading at each pass, by one outside on both sides, one that comes with a number,
-- the largest numbers, what stays, and the order of the refusals. Assumes nothing.
use mathlib.Core.Path.{◌≡◌, refl}
use Prim.Native.Nat.{ℕ}
use mathlib.Core.List.{List, [], ◌∷◌}
use Rattle.refusals.specs.Outcome.{answer, refusal}
use Rattle.numerals.specs.little_endian.LittleEndian.{four_at, u64_at, eight_bytes}
use Rattle.numerals.specs.little_endian.Written.{all_bytes}
use Rattle.ticks.specs.Line.{line_at}
use Rattle.ticks.specs.judging.Numbers.{holds_below, all_small, all_rising}
use Rattle.ticks.specs.Passes.{Passes, last_not_after, millis_at}
use Rattle.ticks.specs.judging.Refusing.{well_counted, usable, both_rising, passes_refusal}
use Rattle.ticks.specs.places.Places.{within, placed_reading, number_of, with_place, with_places, with_reading_numbers, without_place, places_refusal}
use Rattle.ticks.specs.places.Places.{places_call}
use Rattle.ticks.specs.places.Places.{readings_written, placed_run}
use Rattle.ticks.specs.laws.Writer.{listed_passes}

-- passes at 1000, 2000 and 4000 ms by the marks 0, 500 and 2500 mm
abbrev three_marks : Passes
three_marks = listed_passes (1000 ∷ 2000 ∷ 4000 ∷ []) (0 ∷ 500 ∷ 2500 ∷ [])

-- a reading at a pass has its mark
pub at_the_marks : (placed_reading three_marks 0 1000 ≡ answer 0) × (placed_reading three_marks 0 2000 ≡ answer 500)
    × (placed_reading three_marks 0 4000 ≡ answer 2500)
unfolding placed_reading within last_not_after millis_at line_at
at_the_marks = (refl, refl, refl)

-- 499.5 mm on the first line, rounded down, and 1501 mm on the second
pub between-the-marks : (placed_reading three_marks 0 1999 ≡ answer 499) × (placed_reading three_marks 0 3001 ≡ answer 1501)
unfolding placed_reading within last_not_after millis_at line_at
between-the-marks = (refl, refl)

-- a millisecond before the first pass, and one behind the last
pub beside-the-marks : (placed_reading three_marks 0 999 ≡ refusal 25) × (placed_reading three_marks 0 4001 ≡ refusal 25)
unfolding placed_reading within last_not_after millis_at line_at
beside-the-marks = (refl, refl)

-- a number that a reading comes with stays, inside the passes and outside
pub refused-before : (placed_reading three_marks 9 2000 ≡ refusal 9) × (placed_reading three_marks 9 4001 ≡ refusal 9)
unfolding placed_reading within last_not_after millis_at line_at
refused-before = (refl, refl)

-- the largest numbers: a product of 80 bits, the last pass at 2^40 - 1, and a reading at 2^40
pub largest_places : (placed_reading (listed_passes (0 ∷ 1099511627775 ∷ []) (0 ∷ 1099511627774 ∷ [])) 0 1099511627774 ≡ answer 1099511627773)
    × (placed_reading (listed_passes (0 ∷ 1099511627775 ∷ []) (0 ∷ 1099511627774 ∷ [])) 0 1099511627775 ≡ answer 1099511627774)
    × (placed_reading (listed_passes (0 ∷ 1099511627775 ∷ []) (0 ∷ 1099511627774 ∷ [])) 0 1099511627776 ≡ refusal 25)
unfolding placed_reading within last_not_after millis_at line_at
largest_places = (refl, refl, refl)

-- ---- runs as bytes
abbrev numbers : List ℕ → List ℕ
numbers ns = all_bytes eight_bytes ns

-- of five readings the second comes with 9, and the third and the last lie outside: the others are placed, and their places and the bytes behind stay
pub run-of-five : placed_run (numbers (1000 ∷ 2000 ∷ [])) (numbers (0 ∷ 500 ∷ [])) (numbers (1002 ∷ 1002 ∷ 2001 ∷ 1004 ∷ 999 ∷ []))
    (numbers (7 ∷ 7 ∷ 7 ∷ 7 ∷ 7 ∷ 8 ∷ []))
    (0 ∷ 9 ∷ 0 ∷ 0 ∷ 0 ∷ [])
    ≡ places_call (answer 3) (numbers (1 ∷ 7 ∷ 7 ∷ 2 ∷ 7 ∷ 8 ∷ [])) (0 ∷ 9 ∷ 25 ∷ 0 ∷ 25 ∷ [])
unfolding placed_run places_refusal passes_refusal readings_written with_places with_place with_reading_numbers without_place number_of placed_reading within
    well_counted usable both_rising holds_below all_small all_rising last_not_after millis_at line_at four_at u64_at all_bytes
run-of-five = refl

-- each refusal where the next would hold too: 14 before 12, 12 before 11, 11 before 23, 23 before 24; and the passes are judged of no reading too
pub places-refused : (places_refusal (numbers (0 ∷ 9 ∷ [])) (0 ∷ []) (numbers (1 ∷ [])) 2 0 ≡ 14)
    × (places_refusal (numbers (0 ∷ 9 ∷ [])) (numbers (0 ∷ 9 ∷ [])) (numbers (1 ∷ [])) 2 0 ≡ 12)
    × (places_refusal (numbers (0 ∷ [])) (numbers (0 ∷ 9 ∷ [])) (numbers (1 ∷ [])) 1 7 ≡ 11)
    × (places_refusal (numbers (9 ∷ 0 ∷ [])) (numbers (0 ∷ 1099511627776 ∷ [])) (numbers (1 ∷ [])) 1 8 ≡ 23)
    × (places_refusal (numbers (9 ∷ 9 ∷ [])) (numbers (0 ∷ 9 ∷ [])) [] 0 0 ≡ 24)
unfolding places_refusal passes_refusal well_counted usable both_rising holds_below all_small all_rising four_at u64_at all_bytes
places-refused = (refl, refl, refl, refl, refl)

-- refused, all stays
pub refused-stays : placed_run (numbers (9 ∷ 9 ∷ [])) (numbers (0 ∷ 9 ∷ [])) (numbers (9 ∷ [])) (numbers (7 ∷ [])) (0 ∷ [])
    ≡ places_call (refusal 24) (numbers (7 ∷ [])) (0 ∷ [])
unfolding placed_run places_refusal passes_refusal well_counted usable both_rising holds_below all_small all_rising four_at u64_at all_bytes
refused-stays = refl
