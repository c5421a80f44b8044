-- What a lining up asks of its runs: that the kept places go up, that they rise as neighbours, and that runs of one list can be judged one after the other.
-- Assumes nothing.
use Prim.Native.Nat.{ℕ, zero, suc, ◌+◌, ◌-◌, ◌<◌, ◌≤◌}
use native.Mathlib.Omega.{arith}
use mathlib.Core.Path.{◌≡◌, sym, ap, ◌∙◌}
use mathlib.Core.Bool.{Bool, true, false, cond}
use mathlib.Core.List.{List, [], ◌∷◌, ◌++◌, append_assoc}
use lib.Dec.{eqb}
use lib.ListN.{length, get_or, take, drop, length-append}
use lib.Seq.{slice, length-slice, take-nil, take_at, drop_at, drop-drop, get_or-drop}
use Rattle.line_up.specs.keep.Piles.{most_kept, run_kept, zeros, After, Rises, Upward}
use Rattle.line_up.proofs.keep.Theorems.{kept-length, kept-rises}

-- ---- the places of the zeros go up

up_less : (i j : ℕ) (xs : List ℕ) → i ≤ j → Upward j xs → Upward i xs
up_less i j [] h u = tt
up_less i j (x ∷ xs) h u = (omega (arith, u.0), u.1)

zeros-up-by : (c : Bool) (i : ℕ) (xs : List ℕ) → Upward (suc i) xs → Upward i (cond c (i ∷ xs) xs)
zeros-up-by true i xs u = (omega arith, u)
zeros-up-by false i xs u = up_less i (suc i) xs (omega arith) u

pub zeros-up : (i : ℕ) (ms : List ℕ) → Upward i (zeros i ms)
unfolding zeros
zeros-up i [] = tt
zeros-up i (m ∷ ms) = zeros-up-by (eqb m 0) i (zeros (suc i) ms) (zeros-up (suc i) ms)

-- of neighbours the second is not earlier and stands behind: `line_up`'s `MayFollow` follows, whose second part asks the place only where the first is not
-- earlier either
pub record Follows (lt : ℕ → ℕ → Bool) (x y : ℕ) : Type 0 where
  pub late : lt y x ≡ false
  pub behind : x < y

abbrev pub FollowsFirst : (ℕ → ℕ → Bool) → ℕ → List ℕ → Type 0
FollowsFirst lt x [] = Unit
FollowsFirst lt x (y ∷ ys) = Follows lt x y

abbrev pub Followed : (ℕ → ℕ → Bool) → List ℕ → Type 0
Followed lt [] = Unit
Followed lt (x ∷ xs) = FollowsFirst lt x xs × Followed lt xs

first-follows : (lt : ℕ → ℕ → Bool) (x : ℕ) (xs : List ℕ) → After lt x xs → Upward (suc x) xs → FollowsFirst lt x xs
first-follows lt x [] a u = tt
first-follows lt x (y ∷ ys) a u = record { late = a; behind = omega (arith, u.0) }

rises-followed : (lt : ℕ → ℕ → Bool) (i : ℕ) (xs : List ℕ) → Rises lt xs → Upward i xs → Followed lt xs
rises-followed lt i [] r u = tt
rises-followed lt i (x ∷ xs) r u = (first-follows lt x xs r.0 u.1, rises-followed lt (suc x) xs r.1 u.1)

pub kept-followed : (lt : ℕ → ℕ → Bool) (i : ℕ) (ns : List ℕ) → Followed lt (zeros i (most_kept lt i ns))
kept-followed lt i ns = rises-followed lt i (zeros i (most_kept lt i ns)) (kept-rises lt i ns) (zeros-up i (most_kept lt i ns))

-- ---- a run looks at its own numbers only

slice_take : (f t : ℕ) (l : List ℕ) → slice f t l ≡ take (t - f) (drop f l)
slice_take zero t l = let e : t ≡ t - 0 = omega arith in ap (λ (q : ℕ). take q l) e
slice_take (suc f) zero l = let e : 0 ≡ 0 - suc f = omega arith in ap (λ (q : ℕ). take q (drop (suc f) l)) e
slice_take (suc f) (suc t) [] = sym (take-nil (suc t - suc f))
slice_take (suc f) (suc t) (x ∷ xs) = let e : t - f ≡ suc t - suc f = omega arith in slice_take f t xs ∙ ap (λ (q : ℕ). take q (drop f xs)) e

-- P are the numbers of the runs before, and N is what is left of ns behind them
module _ (lt : ℕ → ℕ → Bool) (ns P : List ℕ) (from to : ℕ) (ft : from ≤ to) (tn : to ≤ length ns) (len : length P ≡ from) (N : List ℕ)
    (e : N ≡ P ++ drop from ns) where
  drop_same : (j : ℕ) → from ≤ j → drop j N ≡ drop j ns
  drop_same j h =
      let k : j ≡ from + (j - from) = omega arith in
      let d : drop from N ≡ drop from ns = ap (drop from) e ∙ drop_at P (drop from ns) from len in
      ap (λ (q : ℕ). drop q N) k ∙ sym (drop-drop (j - from) from N) ∙ ap (drop (j - from)) d ∙ drop-drop (j - from) from ns ∙ ap (λ (q : ℕ). drop q ns) (sym k)

  -- the numbers of the run are those of ns
  pub run-number : (p d : ℕ) → from ≤ p → get_or N p d ≡ get_or ns p d
  run-number p d h =
      let z : p + 0 ≡ p = omega arith in
      ap (λ (q : ℕ). get_or N q d) (sym z) ∙ sym (get_or-drop p N 0 d) ∙ ap (λ (l : List ℕ). get_or l 0 d) (drop_same p h) ∙ get_or-drop p ns 0 d
      ∙ ap (λ (q : ℕ). get_or ns q d) z

  slice_same : slice from to N ≡ slice from to ns
  slice_same = slice_take from to N ∙ ap (take (to - from)) (drop_same from (omega arith)) ∙ sym (slice_take from to ns)

  pub run_long : length (P ++ most_kept lt from (slice from to ns)) ≡ to
  run_long = length-append P (most_kept lt from (slice from to ns)) ∙ omega (arith, len, kept-length lt from (slice from to ns), length-slice from to ns tn)

  pub run_is : run_kept lt N from to ≡ (P ++ most_kept lt from (slice from to ns)) ++ drop to ns
  run_is =
      let t : take from N ≡ P = ap (take from) e ∙ take_at P (drop from ns) from len in
      rw (t, slice_same, drop_same to ft) (sym (append_assoc P (most_kept lt from (slice from to ns)) (drop to ns)))
