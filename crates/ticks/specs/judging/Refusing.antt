-- Which lists of passes and ticks are refused; lists are bytes, eight for a number, the lowest first. Written from document 02, item 10: "Turned away whole, in
-- this order: 11 .. 23 .. 24 .. 25", 2 to 2,000 passes, numbers below 2^40. A length that is no multiple of 8 has no number there; it is 14, before all others,
-- as a broken triple of item 2. Assumes nothing.
use Rattle.std.specs.Prelude.{ℕ, ◌-◌, ◌*◌, ◌/◌, ◌%◌, Bool, cond, ◌&&◌, List, length, leb, eqb}
use Rattle.numerals.specs.little_endian.LittleEndian.{u64_at}
use Rattle.ticks.specs.judging.Numbers.{all_small, all_rising, inside}

-- number i of a list, and how many it has
abbrev pub number_at : List ℕ → ℕ → ℕ
number_at s i = u64_at s (8 * i)

abbrev pub numbers_in : List ℕ → ℕ
numbers_in s = length s / 8

abbrev pub whole_numbers : List ℕ → Bool
whole_numbers s = eqb (length s % 8) 0

-- as many milliseconds as ticks, 2 to 2,000
unfoldable pub well_counted : List ℕ → List ℕ → Bool
well_counted ps ms = eqb (numbers_in ps) (numbers_in ms) && (leb 2 (numbers_in ps) && leb (numbers_in ps) 2000)

-- and all below 2^40
unfoldable pub usable : List ℕ → List ℕ → Bool
usable ps ms = well_counted ps ms && (all_small (numbers_in ps) (number_at ps) && all_small (numbers_in ps) (number_at ms))

unfoldable pub both_rising : List ℕ → List ℕ → Bool
both_rising ps ms = all_rising (numbers_in ps) (number_at ps) && all_rising (numbers_in ps) (number_at ms)

unfoldable pub all_inside : List ℕ → List ℕ → Bool
all_inside ps ts = inside (number_at ps 0) (number_at ps (numbers_in ps - 1)) (numbers_in ts) (number_at ts)

-- the number of the refusal for the passes alone, or 0
unfoldable pub passes_refusal : List ℕ → List ℕ → ℕ
passes_refusal ps ms = cond (usable ps ms) (cond (both_rising ps ms) 0 24) 23

-- the number of the refusal for these passes and ticks and so many bytes of room, or 0
unfoldable pub refused_by : List ℕ → List ℕ → List ℕ → ℕ → ℕ
refused_by ps ms ts room =
    cond (whole_numbers ps && (whole_numbers ms && whole_numbers ts))
    (cond (leb (numbers_in ts) (room / 8))
    (cond (usable ps ms)
    (cond (both_rising ps ms)
    (cond (all_inside ps ts)
    0
    25)
    24)
    23)
    11)
    14

-- the number of the refusal for n passes by their numbers, or 0
unfoldable pub judged_by : ℕ → (ℕ → ℕ) → (ℕ → ℕ) → ℕ
judged_by n tick milli = cond (all_small n tick && all_small n milli) (cond (all_rising n tick && all_rising n milli) 0 24) 23
