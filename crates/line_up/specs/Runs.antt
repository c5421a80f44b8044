-- Runs of stamps as lists of places: which stamps of a run are accepted, and how the accepted places of three runs are merged. `lt x y` says that the stamp at
-- place x is earlier than that at y. Assumes nothing.
use Rattle.std.specs.Prelude.{ℕ, suc, ◌+◌, ◌<◌, ◌≡◌, Bool, false, cond, ◌&&◌, List, [], ◌∷◌, ◌++◌, eqb, ltb, length}
use Rattle.std.proofs.Math.Seq.{slice}
unfoldable pub use Rattle.line_up.specs.keep.Piles.{zeros, most_kept}

-- ---- who is unordered

-- the number of the stamp at place i: 9 if nothing refused it before and it is unordered; else its own
unfoldable pub tested : (ℕ → Bool) → ℕ → ℕ → ℕ
tested unordered number i = cond (eqb number 0 && unordered i) 9 number

-- the numbers of all stamps from place i on
unfoldable pub all_tested : (ℕ → Bool) → ℕ → List ℕ → List ℕ
all_tested unordered i [] = []
all_tested unordered i (n ∷ ns) = tested unordered n i ∷ all_tested unordered (suc i) ns

-- ---- who is left out

-- the numbers of the run from place `from` up to `to`: the most that rise keep 0
abbrev pub run : (ℕ → ℕ → Bool) → List ℕ → ℕ → ℕ → List ℕ
run lt ns from to = most_kept lt from (slice from to ns)

-- the numbers of three runs, which end at places a, b and n
unfoldable pub numbers_after : (ℕ → ℕ → Bool) → List ℕ → ℕ → ℕ → ℕ → List ℕ
numbers_after lt ns a b n = run lt ns 0 a ++ (run lt ns a b ++ run lt ns b n)

-- ---- the order

-- the places from `from` up to `to` that are accepted
abbrev pub accepted_in : List ℕ → ℕ → ℕ → List ℕ
accepted_in ms from to = zeros from (slice from to ms)

-- place x, after which `rest` merges, and the places of a later run
unfoldable pub into : (ℕ → ℕ → Bool) → ℕ → (List ℕ → List ℕ) → List ℕ → List ℕ
into lt x rest [] = x ∷ rest []
into lt x rest (y ∷ ys) = cond (lt y x) (y ∷ into lt x rest ys) (x ∷ rest (y ∷ ys))

-- the stable merge: the second list's first place goes first only if it is earlier
unfoldable pub merge : (ℕ → ℕ → Bool) → List ℕ → List ℕ → List ℕ
merge lt [] ys = ys
merge lt (x ∷ xs) ys = into lt x (merge lt xs) ys

-- the accepted places of three runs
abbrev pub merged : (ℕ → ℕ → Bool) → List ℕ → ℕ → ℕ → ℕ → ℕ → ℕ → ℕ → List ℕ
merged lt ms i a j b k n = merge lt (merge lt (accepted_in ms i a) (accepted_in ms j b)) (accepted_in ms k n)

unfoldable pub ordered : (ℕ → ℕ → Bool) → List ℕ → ℕ → ℕ → ℕ → List ℕ
ordered lt ms a b n = merged lt ms 0 a a b b n

-- ---- what the code keeps of a list: its first place, or n for none

abbrev pub first_or : ℕ → List ℕ → ℕ
first_or n [] = n
first_or n (x ∷ xs) = x

-- the first place of the merge of two lists whose first places are x and y
unfoldable pub pick : (ℕ → ℕ → Bool) → ℕ → ℕ → ℕ → ℕ
pick lt n x y = cond (ltb y n) (cond (ltb x n) (cond (lt y x) y x) y) x

-- the first place of a run that ends at `to`, whose first was x, after place p went into the order
unfoldable pub cursor_after : List ℕ → ℕ → ℕ → ℕ → ℕ
cursor_after ms to p x = cond (eqb p x) (first_or (length ms) (accepted_in ms (suc p) to)) x

-- ---- what the theorems say

-- how often place i stands in a list
abbrev pub once : ℕ → ℕ → ℕ
once i x = cond (eqb i x) 1 0

unfoldable pub times_in : ℕ → List ℕ → ℕ
times_in i [] = 0
times_in i (x ∷ xs) = once i x + times_in i xs

-- y may follow x: it is not earlier, and where x is not earlier either its place is after x's
pub record MayFollow (lt : ℕ → ℕ → Bool) (x y : ℕ) : Type 0 where
  pub late : lt y x ≡ false
  pub tied : lt x y ≡ false → x < y

-- the first of a list may follow x
abbrev pub FirstMayFollow : (ℕ → ℕ → Bool) → ℕ → List ℕ → Type 0
FirstMayFollow lt x [] = Unit
FirstMayFollow lt x (y ∷ ys) = MayFollow lt x y

-- each may follow the one before it
abbrev pub Rising : (ℕ → ℕ → Bool) → List ℕ → Type 0
Rising lt [] = Unit
Rising lt (x ∷ xs) = FirstMayFollow lt x xs × Rising lt xs
