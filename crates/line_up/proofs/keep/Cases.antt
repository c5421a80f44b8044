-- Which stamps of small runs are kept, worked out: stamps are numbers, all with number 0 but where another is said. Each case says one number after the call.
-- Assumes nothing.
use Prim.Native.Nat.{ℕ}
use mathlib.Core.Path.{◌≡◌, refl}
use mathlib.Core.Bool.{Bool}
use mathlib.Core.List.{List, [], ◌∷◌}
use lib.Dec.{ltb}
use lib.ListN.{get_or, take}
use Rattle.line_up.specs.keep.Piles.{piles_before, laid, all_laid, ranks, wanted, all_judged, most_kept, run_kept}

-- the order of stamps that are numbers
abbrev by : List ℕ → ℕ → ℕ → Bool
by keys i j = ltb (get_or keys i 0) (get_or keys j 0)

-- one far too late is left out
far_too_late : get_or (most_kept (by (5 ∷ 90 ∷ 6 ∷ 7 ∷ [])) 0 (0 ∷ 0 ∷ 0 ∷ 0 ∷ [])) 1 9 ≡ 17
unfolding most_kept all_judged wanted ranks all_laid laid piles_before
far_too_late = refl

-- and those behind it stay
after-too-late : get_or (most_kept (by (5 ∷ 90 ∷ 6 ∷ 7 ∷ [])) 0 (0 ∷ 0 ∷ 0 ∷ 0 ∷ [])) 2 9 ≡ 0
unfolding most_kept all_judged wanted ranks all_laid laid piles_before
after-too-late = refl

-- of two that contradict each other alone the later place is kept
earlier-place-out : get_or (most_kept (by (5 ∷ 1 ∷ 6 ∷ 7 ∷ [])) 0 (0 ∷ 0 ∷ 0 ∷ 0 ∷ [])) 0 9 ≡ 17
unfolding most_kept all_judged wanted ranks all_laid laid piles_before
earlier-place-out = refl

-- of equal stamps none is left out
equal-kept : take 1 (most_kept (by (5 ∷ 5 ∷ 6 ∷ [])) 0 (0 ∷ 0 ∷ 0 ∷ [])) ≡ 0 ∷ []
unfolding most_kept all_judged wanted ranks all_laid laid piles_before
equal-kept = refl

-- the later place, where the first of the two is the later stamp
later-place-kept : get_or (most_kept (by (5 ∷ 9 ∷ 7 ∷ [])) 0 (0 ∷ 0 ∷ 0 ∷ [])) 2 9 ≡ 0
unfolding most_kept all_judged wanted ranks all_laid laid piles_before
later-place-kept = refl

-- a refused stamp keeps its number
refused-stays : get_or (most_kept (by (9 ∷ 1 ∷ 2 ∷ [])) 0 (6 ∷ 0 ∷ 0 ∷ [])) 0 9 ≡ 6
unfolding most_kept all_judged wanted ranks all_laid laid piles_before
refused-stays = refl

-- and no other is left out for it
refused-counts-nothing : get_or (most_kept (by (9 ∷ 1 ∷ 2 ∷ [])) 0 (6 ∷ 0 ∷ 0 ∷ [])) 1 9 ≡ 0
unfolding most_kept all_judged wanted ranks all_laid laid piles_before
refused-counts-nothing = refl

-- a run in the middle of the numbers: the first of its two stamps is left out
run-in-the-middle : get_or (run_kept (by (9 ∷ 4 ∷ 3 ∷ 1 ∷ [])) (0 ∷ 0 ∷ 0 ∷ 0 ∷ []) 1 3) 1 9 ≡ 17
unfolding most_kept all_judged wanted ranks all_laid laid piles_before
run-in-the-middle = refl

-- and what stands before it stays
before-the-run : get_or (run_kept (by (9 ∷ 4 ∷ 3 ∷ 1 ∷ [])) (0 ∷ 0 ∷ 0 ∷ 0 ∷ []) 1 3) 0 9 ≡ 0
unfolding most_kept all_judged wanted ranks all_laid laid piles_before
before-the-run = refl
