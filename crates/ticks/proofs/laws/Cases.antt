-- Cases that pin a rule each, computed from the definitions: rounded down, the last pass, a product over 64 bits, and the order of the refusals. Assumes
-- nothing.
use mathlib.Core.Path.{◌≡◌, refl}
use Prim.Native.Nat.{ℕ}
use mathlib.Core.List.{List, [], ◌++◌, ◌∷◌}
use Rattle.refusals.specs.Outcome.{answer, refusal}
use Rattle.numerals.specs.little_endian.LittleEndian.{four_at, u64_at, eight_bytes}
use Rattle.ticks.specs.Line.{line_at}
use Rattle.ticks.specs.judging.Numbers.{holds_below, all_small, all_rising, inside}
use Rattle.ticks.specs.Passes.{last_not_after, millis_at}
use Rattle.ticks.specs.judging.Refusing.{well_counted, usable, both_rising, all_inside, refused_by}
use Rattle.ticks.specs.Ticks.{bytes_of, placed_ticks, lent_after}

abbrev pub two_numbers : ℕ → ℕ → List ℕ
two_numbers a b = eight_bytes a ++ eight_bytes b

-- 9.99 ms, rounded down; and the last pass
pub rounded_down : (placed_ticks (two_numbers 0 1000) (two_numbers 0 10) (eight_bytes 999) 8 ≡ answer (eight_bytes 9))
    × (placed_ticks (two_numbers 0 1000) (two_numbers 0 10) (eight_bytes 1000) 8 ≡ answer (eight_bytes 10))
unfolding placed_ticks refused_by well_counted usable both_rising all_inside holds_below all_small all_rising inside last_not_after millis_at line_at bytes_of
    four_at u64_at
rounded_down = (refl, refl)

-- (2^40 - 2)^2 / (2^40 - 1), a product of 80 bits
pub wide-product : placed_ticks (two_numbers 0 1099511627775) (two_numbers 0 1099511627774) (eight_bytes 1099511627774) 8 ≡ answer (eight_bytes 1099511627773)
unfolding placed_ticks refused_by well_counted usable both_rising all_inside holds_below all_small all_rising inside last_not_after millis_at line_at bytes_of
    four_at u64_at
wide-product = refl

-- a length that is no multiple of eight is 14, before 11; passes that do not rise are 24, before a tick outside them
pub earlier-first : (placed_ticks (0 ∷ []) [] (eight_bytes 1) 0 ≡ refusal 14) ×
    (placed_ticks (two_numbers 5 5) (two_numbers 0 10) (eight_bytes 9) 8 ≡ refusal 24)
unfolding placed_ticks refused_by well_counted usable both_rising all_inside holds_below all_small all_rising inside last_not_after millis_at line_at bytes_of
    four_at u64_at
earlier-first = (refl, refl)

-- passes at the ticks 2^40 and 0 are 23, though they do not rise; of no ticks the passes are judged all the same; a tick of 2^40 is 25; 11 comes before the
-- passes
pub refused-in-order : (placed_ticks (two_numbers 1099511627776 0) (two_numbers 0 10) [] 0 ≡ refusal 23)
    × (placed_ticks (two_numbers 5 5) (two_numbers 0 10) [] 0 ≡ refusal 24)
    × (placed_ticks (two_numbers 0 1000) (two_numbers 0 10) (eight_bytes 1099511627776) 8 ≡ refusal 25) × (placed_ticks [] [] (eight_bytes 1) 7 ≡ refusal 11)
unfolding placed_ticks refused_by well_counted usable both_rising all_inside holds_below all_small all_rising inside last_not_after millis_at line_at bytes_of
    four_at u64_at
refused-in-order = (refl, refl, refl, refl)

-- three passes, at the ticks 0, 10 and 20 and the milliseconds 0, 100 and 110: tick 5 is on the first line, tick 15 on the second
abbrev three_numbers : ℕ → ℕ → ℕ → List ℕ
three_numbers a b c = eight_bytes a ++ two_numbers b c

pub two-lines : placed_ticks (three_numbers 0 10 20) (three_numbers 0 100 110) (two_numbers 5 15) 16 ≡ answer (two_numbers 50 105)
unfolding placed_ticks refused_by well_counted usable both_rising all_inside holds_below all_small all_rising inside last_not_after millis_at line_at bytes_of
    four_at u64_at
two-lines = refl

-- a lent list of two places: of one result the second stays, and refused both do
pub places-after : (lent_after (answer (eight_bytes 50)) (two_numbers 7 8) ≡ two_numbers 50 8) × (lent_after (refusal 25) (two_numbers 7 8) ≡ two_numbers 7 8)
unfolding lent_after bytes_of
places-after = (refl, refl)
