-- Small runs, worked out: the numbers after the lining up, the ends of the runs, the ordered places. Assumes nothing.
use Rattle.std.proofs.Common.{◌≡◌, [], ◌∷◌, refl}
use Rattle.line_listing.specs.order.Order.{until_zero, each_behind, run_starts, line_order}

-- refused at the start, in the middle and at the end of a run
pub one-run : line_order (9 ∷ 0 ∷ 6 ∷ 17 ∷ 0 ∷ 9 ∷ []) 6 6 (1 ∷ 4 ∷ []) ≡ 0 ∷ 1 ∷ 2 ∷ 3 ∷ 4 ∷ 5 ∷ []
unfolding line_order run_starts each_behind until_zero
one-run = refl

-- a stamp that is left out or refused stands behind the last ordered one before it in its own run, also where stamps of another run are between
pub in_its_run : line_order (0 ∷ 17 ∷ 0 ∷ 0 ∷ 9 ∷ []) 3 5 (0 ∷ 3 ∷ 2 ∷ []) ≡ 0 ∷ 1 ∷ 3 ∷ 4 ∷ 2 ∷ []
unfolding line_order run_starts each_behind until_zero
in_its_run = refl

-- a run ends where the next begins: what is refused at the start of the second stands before all ordered ones, and not behind the last of the first
pub at_run_end : line_order (0 ∷ 9 ∷ 0 ∷ []) 1 3 (0 ∷ 2 ∷ []) ≡ 1 ∷ 0 ∷ 2 ∷ []
unfolding line_order run_starts each_behind until_zero
at_run_end = refl

-- none is ordered: by recorder and then by index
pub none-ordered : line_order (9 ∷ 6 ∷ 9 ∷ 9 ∷ []) 2 3 [] ≡ 0 ∷ 1 ∷ 2 ∷ 3 ∷ []
unfolding line_order run_starts each_behind until_zero
none-ordered = refl

-- runs without a stamp
pub empty_runs : (line_order [] 0 0 [] ≡ []) × (line_order (0 ∷ 9 ∷ []) 0 0 (0 ∷ []) ≡ 0 ∷ 1 ∷ []) × (line_order (9 ∷ 0 ∷ []) 0 2 (1 ∷ []) ≡ 0 ∷ 1 ∷ [])
unfolding line_order run_starts each_behind until_zero
empty_runs = (refl, refl, refl)

-- the sample of README.md: three runs of 5, 6 and 6 stamps, with three of one instant
pub sample :
    line_order (9 ∷ 0 ∷ 0 ∷ 9 ∷ 0 ∷ 0 ∷ 0 ∷ 9 ∷ 17 ∷ 0 ∷ 0 ∷ 0 ∷ 0 ∷ 6 ∷ 0 ∷ 0 ∷ 6 ∷ []) 5 11
    (11 ∷ 5 ∷ 1 ∷ 2 ∷ 6 ∷ 12 ∷ 9 ∷ 14 ∷ 15 ∷ 4 ∷ 10 ∷ []) ≡ 0 ∷ 11 ∷ 5 ∷ 1 ∷ 2 ∷ 3 ∷ 6 ∷ 7 ∷ 8 ∷ 12 ∷ 13 ∷ 9 ∷ 14 ∷ 15 ∷ 16 ∷ 4 ∷ 10 ∷ []
unfolding line_order run_starts each_behind until_zero
sample = refl
