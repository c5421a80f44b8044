-- The numbers of a run: the places that are left at 0 rise. Assumes nothing.
use Prim.Native.Nat.{ℕ, ◌-◌, ◌≤◌}
use mathlib.Core.Path.{◌≡◌, ◌∙◌}
use mathlib.Core.Bool.{Bool}
use mathlib.Core.List.{List, [], ◌∷◌}
use lib.ListN.{length}
use lib.Seq.{slice, length-slice}
use Rattle.line_up.specs.keep.Piles.{zeros}
use Rattle.line_up.proofs.keep.Theorems.{kept-length}
use Rattle.line_up.proofs.keep.Places.{FollowsFirst, Followed, kept-followed}
use Rattle.line_up.specs.Runs.{run, FirstMayFollow, Rising}

pub length_run : (lt : ℕ → ℕ → Bool) (ns : List ℕ) (from to : ℕ) → to ≤ length ns → length (run lt ns from to) ≡ to - from
length_run lt ns from to h = kept-length lt from (slice from to ns) ∙ length-slice from to ns h

after-of : (lt : ℕ → ℕ → Bool) (x : ℕ) (xs : List ℕ) → FollowsFirst lt x xs → FirstMayFollow lt x xs
after-of lt x [] f = tt
after-of lt x (y ∷ ys) f = record { late = f.late; tied = λ _. f.behind }

rising-of : (lt : ℕ → ℕ → Bool) (xs : List ℕ) → Followed lt xs → Rising lt xs
rising-of lt [] f = tt
rising-of lt (x ∷ xs) f = (after-of lt x xs f.0, rising-of lt xs f.1)

pub run-rises : (lt : ℕ → ℕ → Bool) (ns : List ℕ) (from to : ℕ) → Rising lt (zeros from (run lt ns from to))
run-rises lt ns from to = rising-of lt (zeros from (run lt ns from to)) (kept-followed lt from (slice from to ns))
