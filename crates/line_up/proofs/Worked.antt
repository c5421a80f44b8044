-- Small lines, worked out: stamps are numbers. And the lengths at the ends of what is taken. Each case says one number. Assumes nothing.
use Prim.Native.Nat.{ℕ}
use mathlib.Core.Path.{◌≡◌, refl}
use mathlib.Core.Bool.{Bool, true}
use mathlib.Core.List.{List, [], ◌∷◌}
use lib.Dec.{ltb}
use lib.ListN.{get_or, take}
use Rattle.line_up.specs.Runs.{tested, into, merge}
use Rattle.line_up.specs.LineUp.{line_refusal}

abbrev by : List ℕ → ℕ → ℕ → Bool
by keys i j = ltb (get_or keys i 0) (get_or keys j 0)

-- a tie goes to the earlier run
tie_to_earlier_run : take 1 (merge (by (5 ∷ 5 ∷ [])) (0 ∷ []) (1 ∷ [])) ≡ 0 ∷ []
unfolding merge into
tie_to_earlier_run = refl

-- and an earlier stamp goes first
earlier-first : take 1 (merge (by (5 ∷ 4 ∷ [])) (0 ∷ []) (1 ∷ [])) ≡ 1 ∷ []
unfolding merge into
earlier-first = refl

-- two stamps want eight bytes for their places
eight-bytes : line_refusal 16 16 2 1 1 8 ≡ 0
unfolding line_refusal
eight-bytes = refl

seven-bytes : line_refusal 16 16 2 1 1 7 ≡ 11
unfolding line_refusal
seven-bytes = refl

-- a stamp that has no place in the order gets 9, and one that was refused before keeps its number
unordered-nine : tested (λ _. true) 0 3 ≡ 9
unfolding tested
unordered-nine = refl

refused-stays : tested (λ _. true) 6 3 ≡ 6
unfolding tested
refused-stays = refl

-- ---- A WITNESS AT EACH END: the customer's three runs of nine million stamps and more, the most that four bytes can number, and one more
pub counts-taken :
    (line_refusal 134217728 134217728 16777216 0 0 67108864 ≡ 0) × (line_refusal 216000000 216000000 27000000 9000000 9000000 108000000 ≡ 0)
    × (line_refusal 34359738360 34359738360 4294967295 4294967295 0 17179869180 ≡ 0)
    × (line_refusal 34359738368 34359738368 4294967296 4294967296 0 17179869184 ≡ 13) × (line_refusal 0 0 0 0 0 0 ≡ 0)
unfolding line_refusal
counts-taken = (refl, refl, refl, refl, refl)

-- calls that break one rule and all behind it
pub line-refusals-in-order :
    (line_refusal 15 16 3 4 0 0 ≡ 14) × (line_refusal 16 15 3 4 0 0 ≡ 14) × (line_refusal 16 24 3 4 0 0 ≡ 12) × (line_refusal 24 16 3 4 0 0 ≡ 12)
    × (line_refusal 24 24 3 4 0 0 ≡ 14) × (line_refusal 24 24 3 2 2 0 ≡ 14) × (line_refusal 34359738368 34359738368 4294967296 0 0 0 ≡ 13)
    × (line_refusal 24 24 3 2 1 11 ≡ 11) × (line_refusal 24 24 3 2 1 12 ≡ 0)
unfolding line_refusal
line-refusals-in-order = (refl, refl, refl, refl, refl, refl, refl, refl, refl)
