-- The theorems on what is kept of a run. Assumes nothing.
use Prim.Native.Nat.{ℕ, zero, suc, ◌+◌, ◌-◌, ◌<◌, ◌≤◌}
use native.Mathlib.Omega.{arith}
use mathlib.Core.Path.{◌≡◌, refl, sym, ap, ◌∙◌, subst}
use mathlib.Core.Bool.{Bool, true, false, cond}
use mathlib.Core.List.{List, [], ◌∷◌}
use mathlib.Core.Logic.{◌⊎◌, inl, inr}
use lib.Dec.{eqb}
use lib.ListN.{length, get_or}
use borrow.Author.Tests.{eqb-true, eqb-false}
use Rattle.line_up.specs.keep.Piles.{piles_after, all_laid, ranks, wanted, all_judged, most_kept, zeros, Chosen, Rises, Upward, All, EachZero, OrderLaws}
use Rattle.line_up.specs.keep.Piles.Chosen.{end, pass, choose}
use Rattle.line_up.proofs.keep.Longest.{Starts, no_longer}
use Rattle.line_up.proofs.keep.Rising.{all-joined}

-- ---- the numbers: refused ones stay, the others are 0 or 17

length-ranks : (lt : ℕ → ℕ → Bool) (i : ℕ) (ns ts : List ℕ) → length (ranks lt i ns ts) ≡ length ns
unfolding ranks
length-ranks lt i [] ts = refl
length-ranks lt i (n ∷ ns) ts = ap suc (length-ranks lt (suc i) ns (piles_after lt n i ts))

length-judged : (ns rs : List ℕ) (many : ℕ) → length rs ≡ length ns → length (all_judged ns rs many) ≡ length ns
unfolding all_judged
length-judged [] [] many e = refl
length-judged (n ∷ ns) [] many e = let w : ⊥ = omega arith in absurd w
length-judged [] (r ∷ rs) many e = let w : ⊥ = omega arith in absurd w
length-judged (n ∷ ns) (r ∷ rs) many e = ap suc (length-judged ns rs many (omega arith))

-- a number n becomes m: a refused one stays, and 0 stays 0 or becomes 17
pub record Judged (n m : ℕ) : Type 0 where
  pub refused : (n ≡ 0 → ⊥) → m ≡ n
  pub accepted : n ≡ 0 → (m ≡ 0) ⊎ (m ≡ 17)

zero_or_17 : (c : Bool) → (◌≡◌ {A = ℕ} (cond c 0 17) 0) ⊎ (◌≡◌ {A = ℕ} (cond c 0 17) 17)
zero_or_17 true = inl refl
zero_or_17 false = inr refl

judged-by : (c : Bool) (n r w : ℕ) → eqb n 0 ≡ c → Judged n (cond c (cond (eqb r w) 0 17) n)
judged-by true n r w e = record { refused = λ h. absurd (h (eqb-true n 0 e)); accepted = λ h. zero_or_17 (eqb r w) }
judged-by false n r w e = record { refused = λ h. refl; accepted = λ h. absurd (eqb-false n 0 e h) }

each-judged : (ns rs : List ℕ) (many p : ℕ) → length rs ≡ length ns → p < length ns → Judged (get_or ns p 0) (get_or (all_judged ns rs many) p 0)
unfolding all_judged
each-judged [] rs many p e h = let w : ⊥ = omega arith in absurd w
each-judged (n ∷ ns) [] many p e h = let w : ⊥ = omega arith in absurd w
each-judged (n ∷ ns) (r ∷ rs) many zero e h = judged-by (eqb n 0) n r (wanted rs many) refl
each-judged (n ∷ ns) (r ∷ rs) many (suc p) e h = each-judged ns rs many p (omega arith) (omega arith)

module _ (lt : ℕ → ℕ → Bool) (i : ℕ) (ns : List ℕ) where
  pub kept-length : length (most_kept lt i ns) ≡ length ns
  unfolding most_kept
  kept-length = length-judged ns (ranks lt i ns []) (length (all_laid lt i ns [])) (length-ranks lt i ns [])

  pub kept-judged : (p : ℕ) → p < length ns → Judged (get_or ns p 0) (get_or (most_kept lt i ns) p 0)
  unfolding most_kept
  kept-judged p h = each-judged ns (ranks lt i ns []) (length (all_laid lt i ns [])) p (length-ranks lt i ns []) h

-- ---- what is kept is a choice of the stamps, and rises

chosen_by : (c d : Bool) (i n : ℕ) (ns xs : List ℕ) → eqb n 0 ≡ c → Chosen (suc i) ns xs → Chosen i (n ∷ ns) (cond (eqb (cond c (cond d 0 17) n) 0) (i ∷ xs) xs)
chosen_by true true i n ns xs e c = choose (eqb-true n 0 e) c
chosen_by true false i n ns xs e c = pass c
chosen_by false d i n ns xs e c = rw e (pass c)

judged-chosen : (i : ℕ) (ns rs : List ℕ) (many : ℕ) → length rs ≡ length ns → Chosen i ns (zeros i (all_judged ns rs many))
unfolding all_judged zeros
judged-chosen i [] [] many e = end
judged-chosen i (n ∷ ns) [] many e = let w : ⊥ = omega arith in absurd w
judged-chosen i [] (r ∷ rs) many e = let w : ⊥ = omega arith in absurd w
judged-chosen i (n ∷ ns) (r ∷ rs) many e =
    chosen_by (eqb n 0) (eqb r (wanted rs many)) i n ns (zeros (suc i) (all_judged ns rs many)) refl (judged-chosen (suc i) ns rs many (omega arith))

all-chosen-by : (c : Bool) (i n : ℕ) (ns xs : List ℕ) → eqb n 0 ≡ c → Chosen (suc i) ns xs → Chosen i (n ∷ ns) (cond c (i ∷ xs) xs)
all-chosen-by true i n ns xs e c = choose (eqb-true n 0 e) c
all-chosen-by false i n ns xs e c = pass c

-- all stamps with number 0
pub all-chosen : (i : ℕ) (ns : List ℕ) → Chosen i ns (zeros i ns)
unfolding zeros
all-chosen i [] = end
all-chosen i (n ∷ ns) = all-chosen-by (eqb n 0) i n ns (zeros (suc i) ns) refl (all-chosen (suc i) ns)

module _ (lt : ℕ → ℕ → Bool) (i : ℕ) (ns : List ℕ) where
  pub kept-chosen : Chosen i ns (zeros i (most_kept lt i ns))
  unfolding most_kept
  kept-chosen = judged-chosen i ns (ranks lt i ns []) (length (all_laid lt i ns [])) (length-ranks lt i ns [])

  -- (1) what is kept rises
  pub kept-rises : Rises lt (zeros i (most_kept lt i ns))
  unfolding most_kept
  kept-rises = (all-joined lt i ns [] (length (all_laid lt i ns [])) refl).rises

  -- one of each pile is kept
  pub kept-many : length (zeros i (most_kept lt i ns)) ≡ length (all_laid lt i ns [])
  unfolding most_kept
  kept-many =
      let j = all-joined lt i ns [] (length (all_laid lt i ns [])) refl in
      omega (arith, j.low, j.whole)

-- ---- and no choice that rises is longer

starts_none : (lt : ℕ → ℕ → Bool) (xs : List ℕ) → Starts lt 0 xs []
starts_none lt [] = omega arith
starts_none lt (x ∷ xs) = tt

-- places one after the other whose numbers are 0 are a choice

shift : (n i : ℕ) (ns : List ℕ) (j : ℕ) (xs : List ℕ) → suc i ≤ j → Upward j xs → All (λ (x : ℕ). get_or (n ∷ ns) (x - i) 1 ≡ 0) xs
    → All (λ (x : ℕ). get_or ns (x - suc i) 1 ≡ 0) xs
shift n i ns j [] h u a = tt
shift n i ns j (x ∷ xs) h u a =
    let k : x - i ≡ suc (x - suc i) = omega (arith, u.0) in
    (sym (ap (λ (q : ℕ). get_or (n ∷ ns) q 1) k) ∙ a.0, shift n i ns (suc x) xs (omega (arith, u.0)) u.1 a.1)

places-by : (c : Bool) (n i : ℕ) (ns : List ℕ) (x : ℕ) (xs : List ℕ) → eqb x i ≡ c → Upward i (x ∷ xs) → All (λ (y : ℕ). get_or (n ∷ ns) (y - i) 1 ≡ 0) (x ∷ xs)
    → ((ys : List ℕ) → Upward (suc i) ys → All (λ (y : ℕ). get_or ns (y - suc i) 1 ≡ 0) ys → Chosen (suc i) ns ys) → Chosen i (n ∷ ns) (x ∷ xs)
places-by true n i ns x xs e u a f =
    let d : x ≡ i = eqb-true x i e in
    let z : x - i ≡ 0 = omega arith in
    let v : Upward (suc i) xs = subst (λ (q : ℕ). Upward (suc q) xs) d u.1 in
    subst (λ (q : ℕ). Chosen i (n ∷ ns) (q ∷ xs)) (sym d)
    (choose (sym (ap (λ (q : ℕ). get_or (n ∷ ns) q 1) z) ∙ a.0) (f xs v (shift n i ns (suc i) xs (omega arith) v a.1)))
places-by false n i ns x xs e u a f =
    let d : x ≡ i → ⊥ = eqb-false x i e in
    let v : Upward (suc i) (x ∷ xs) = (omega (arith, d, u.0), u.1) in
    pass (f (x ∷ xs) v (shift n i ns (suc i) (x ∷ xs) (omega arith) v a))

pub places-chosen : (i : ℕ) (ns xs : List ℕ) → Upward i xs → All (λ (x : ℕ). get_or ns (x - i) 1 ≡ 0) xs → Chosen i ns xs
places-chosen i [] [] u a = end
places-chosen i [] (x ∷ xs) u a = let w : ⊥ = omega (arith, a.0) in absurd w
places-chosen i (n ∷ ns) [] u a = pass (places-chosen (suc i) ns [] tt tt)
places-chosen i (n ∷ ns) (x ∷ xs) u a = places-by (eqb x i) n i ns x xs refl u a (λ ys v b. places-chosen (suc i) ns ys v b)

-- who turns none away leaves the numbers

fewer_by : (c d : Bool) (n i : ℕ) (xs ys : List ℕ) → eqb n 0 ≡ c → length xs ≤ length ys
    → length (cond (eqb (cond c (cond d 0 17) n) 0) (i ∷ xs) xs) ≤ length (cond c (i ∷ ys) ys)
fewer_by true true n i xs ys e h = omega arith
fewer_by true false n i xs ys e h = omega arith
fewer_by false d n i xs ys e h = rw e h

fewer : (i : ℕ) (ns rs : List ℕ) (many : ℕ) → length (zeros i (all_judged ns rs many)) ≤ length (zeros i ns)
unfolding zeros all_judged
fewer i [] [] many = omega arith
fewer i [] (r ∷ rs) many = omega arith
fewer i (n ∷ ns) [] many = omega arith
fewer i (n ∷ ns) (r ∷ rs) many =
    fewer_by (eqb n 0) (eqb r (wanted rs many)) n i (zeros (suc i) (all_judged ns rs many)) (zeros (suc i) ns) refl (fewer (suc i) ns rs many)

same_by : (c d : Bool) (n i : ℕ) (xs ys ms ns : List ℕ) → eqb n 0 ≡ c → length xs ≤ length ys → (length ys ≤ length xs → ms ≡ ns)
    → length (cond c (i ∷ ys) ys) ≤ length (cond (eqb (cond c (cond d 0 17) n) 0) (i ∷ xs) xs) → cond c (cond d 0 17) n ∷ ms ≡ n ∷ ns
same_by true true n i xs ys ms ns e h f k =
    let z : n ≡ 0 = eqb-true n 0 e in
    let t : ms ≡ ns = f (omega arith) in
    cc
same_by true false n i xs ys ms ns e h f k = let w : ⊥ = omega arith in absurd w
same_by false d n i xs ys ms ns e h f k = ap (λ (l : List ℕ). n ∷ l) (f (rw e at k))

none-left-out : (i : ℕ) (ns rs : List ℕ) (many : ℕ) → length rs ≡ length ns → length (zeros i ns) ≤ length (zeros i (all_judged ns rs many))
    → all_judged ns rs many ≡ ns
unfolding zeros all_judged
none-left-out i [] [] many e h = refl
none-left-out i (n ∷ ns) [] many e h = let w : ⊥ = omega arith in absurd w
none-left-out i [] (r ∷ rs) many e h = refl
none-left-out i (n ∷ ns) (r ∷ rs) many e h =
    same_by (eqb n 0) (eqb r (wanted rs many)) n i (zeros (suc i) (all_judged ns rs many)) (zeros (suc i) ns) (all_judged ns rs many) ns refl
    (fewer (suc i) ns rs many) (none-left-out (suc i) ns rs many (omega arith)) h

module _ (ok : ℕ → Type 0) (lt : ℕ → ℕ → Bool) (order : OrderLaws ok lt) (i : ℕ) (ns : List ℕ) (oks : EachZero ok i ns) where
  -- (2) no choice of stamps with number 0 that rises is longer
  pub kept-most : (xs : List ℕ) → Chosen i ns xs → Rises lt xs → length xs ≤ length (zeros i (most_kept lt i ns))
  kept-most xs c r =
      let h : 0 + length xs ≤ length (all_laid lt i ns []) = no_longer ok lt order c [] 0 oks tt r (starts_none lt xs) in
      omega (arith, kept-many lt i ns)

  -- (3) where all of them rise none is left out
  pub kept-all : Rises lt (zeros i ns) → most_kept lt i ns ≡ ns
  unfolding most_kept
  kept-all r = none-left-out i ns (ranks lt i ns []) (length (all_laid lt i ns [])) (length-ranks lt i ns []) (kept-most (zeros i ns) (all-chosen i ns) r)
