-- Which stamps of a run are kept, so that the fewest are left out: piles, as in the game of patience. `lt x y` says that the stamp at place x is earlier than
-- that at y. A stamp goes on the first pile whose last stamp is later than it, or opens a pile behind the others. In a pile stamps get earlier and earlier, so
-- that stamps which rise have no two of one pile. Kept is one of each pile, from the last stamp of the last pile back: of each pile before it the last stamp
-- that was laid before. Assumes nothing.
use Rattle.std.specs.Prelude.{ℕ, suc, ◌-◌, ◌<◌, ◌≤◌, ◌≡◌, Bool, true, false, cond, List, [], ◌∷◌, ◌++◌, ◌⊎◌, eqb, length, take, drop}
use Rattle.std.proofs.Math.Seq.{slice}

-- ---- the piles, each by its last stamp

-- how many piles stand before that on which the stamp at place i goes
unfoldable pub piles_before : (ℕ → ℕ → Bool) → ℕ → List ℕ → ℕ
piles_before lt i [] = 0
piles_before lt i (t ∷ ts) = cond (lt i t) 0 (suc (piles_before lt i ts))

-- the piles after it went there
unfoldable pub laid : (ℕ → ℕ → Bool) → ℕ → List ℕ → List ℕ
laid lt i [] = i ∷ []
laid lt i (t ∷ ts) = cond (lt i t) (i ∷ ts) (t ∷ laid lt i ts)

-- the piles after the stamp at place i, whose number is n: one that is refused goes on none
abbrev pub piles_after : (ℕ → ℕ → Bool) → ℕ → ℕ → List ℕ → List ℕ
piles_after lt n i ts = cond (eqb n 0) (laid lt i ts) ts

-- which pile it goes on, counted from 1; 0 for none
abbrev pub rank : (ℕ → ℕ → Bool) → ℕ → ℕ → List ℕ → ℕ
rank lt n i ts = cond (eqb n 0) (suc (piles_before lt i ts)) 0

-- the piles after all stamps from place i on
unfoldable pub all_laid : (ℕ → ℕ → Bool) → ℕ → List ℕ → List ℕ → List ℕ
all_laid lt i [] ts = ts
all_laid lt i (n ∷ ns) ts = all_laid lt (suc i) ns (piles_after lt n i ts)

-- which pile each goes on
unfoldable pub ranks : (ℕ → ℕ → Bool) → ℕ → List ℕ → List ℕ → List ℕ
ranks lt i [] ts = []
ranks lt i (n ∷ ns) ts = rank lt n i ts ∷ ranks lt (suc i) ns (piles_after lt n i ts)

-- ---- one of each pile, from the back

-- the pile of which one is still to be kept, after a stamp of pile r
abbrev pub wanted_before : ℕ → ℕ → ℕ
wanted_before r w = cond (eqb r w) (r - 1) w

-- the same before all stamps whose piles are rs, of `many` piles; 0 for none
unfoldable pub wanted : List ℕ → ℕ → ℕ
wanted [] many = many
wanted (r ∷ rs) many = wanted_before r (wanted rs many)

-- the number of a stamp with number n of pile r: its own if it is refused already; 17 if it is not the one that is wanted
abbrev pub number_by_pile : ℕ → ℕ → ℕ → ℕ
number_by_pile n r w = cond (eqb n 0) (cond (eqb r w) 0 17) n

-- the numbers of stamps with numbers ns whose piles are rs, of `many` piles
unfoldable pub all_judged : List ℕ → List ℕ → ℕ → List ℕ
all_judged ns [] many = []
all_judged [] (r ∷ rs) many = []
all_judged (n ∷ ns) (r ∷ rs) many = number_by_pile n r (wanted rs many) ∷ all_judged ns rs many

-- the numbers of a run that starts at place i
unfoldable pub most_kept : (ℕ → ℕ → Bool) → ℕ → List ℕ → List ℕ
most_kept lt i ns = all_judged ns (ranks lt i ns []) (length (all_laid lt i ns []))

-- all numbers, after the run from place `from` up to `to` was judged
abbrev pub run_kept : (ℕ → ℕ → Bool) → List ℕ → ℕ → ℕ → List ℕ
run_kept lt ns from to = take from ns ++ (most_kept lt from (slice from to ns) ++ drop to ns)

-- ---- what the theorems say

-- the places of the numbers that are 0, where the first stands at place i
unfoldable pub zeros : ℕ → List ℕ → List ℕ
zeros i [] = []
zeros i (m ∷ ms) = cond (eqb m 0) (i ∷ zeros (suc i) ms) (zeros (suc i) ms)

-- xs are places, one after the other, of stamps with number 0; the first of the numbers stands at place i
pub data Chosen : ℕ → List ℕ → List ℕ → Type 0 where
  end : {i : ℕ} → Chosen i [] []
  pass : {i n : ℕ} {ns xs : List ℕ} → Chosen (suc i) ns xs → Chosen i (n ∷ ns) xs
  choose : {i n : ℕ} {ns xs : List ℕ} → n ≡ 0 → Chosen (suc i) ns xs → Chosen i (n ∷ ns) (i ∷ xs)

-- the first of a list is not earlier than x
abbrev pub After : (ℕ → ℕ → Bool) → ℕ → List ℕ → Type 0
After lt x [] = Unit
After lt x (y ∷ ys) = lt y x ≡ false

-- each is not earlier than the one before it
abbrev pub Rises : (ℕ → ℕ → Bool) → List ℕ → Type 0
Rises lt [] = Unit
Rises lt (x ∷ xs) = After lt x xs × Rises lt xs

-- places one after the other, from place i on
abbrev pub Upward : ℕ → List ℕ → Type 0
Upward i [] = Unit
Upward i (x ∷ xs) = (i ≤ x) × Upward (suc x) xs

-- each of the places
abbrev pub All : (ℕ → Type 0) → List ℕ → Type 0
All ok [] = Unit
All ok (x ∷ xs) = ok x × All ok xs

-- each stamp with number 0 is ok; the first of the numbers stands at place i
abbrev pub EachZero : (ℕ → Type 0) → ℕ → List ℕ → Type 0
EachZero ok i [] = Unit
EachZero ok i (n ∷ ns) = (n ≡ 0 → ok i) × EachZero ok (suc i) ns

-- the order of the stamps that are ok: 'earlier' is transitive, and so is 'not earlier'
pub record OrderLaws (ok : ℕ → Type 0) (lt : ℕ → ℕ → Bool) : Type 0 where
  pub less : (x y z : ℕ) → ok x → ok y → ok z → lt x y ≡ true → lt y z ≡ true → lt x z ≡ true
  pub not_less : (x y z : ℕ) → ok x → ok y → ok z → lt y x ≡ false → lt z y ≡ false → lt z x ≡ false

-- some of the places stands before p and is later, or stands behind p and is earlier
abbrev pub Contradicted : (ℕ → ℕ → Bool) → ℕ → List ℕ → Type 0
Contradicted lt p [] = ⊥
Contradicted lt p (x ∷ xs) = (((x < p) × (lt p x ≡ true)) ⊎ ((p < x) × (lt x p ≡ true))) ⊎ Contradicted lt p xs
