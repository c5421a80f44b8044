-- No choice of stamps that rises is longer than the number of the piles. Assumes nothing.
use Prim.Native.Nat.{ℕ, zero, suc, ◌+◌, ◌≤◌}
use native.Mathlib.Omega.{arith}
use mathlib.Core.Path.{◌≡◌, refl, sym, ap, ◌∙◌}
use mathlib.Core.Bool.{Bool, true, false, cond}
use mathlib.Core.List.{List, [], ◌∷◌}
use lib.Dec.{eqb}
use lib.ListN.{length}
use borrow.Author.Tests.{eqb-true, eq-eqb}
use Rattle.line_up.specs.keep.Piles.{piles_before, laid, piles_after, all_laid, Chosen, After, Rises, All, EachZero, OrderLaws}
use Rattle.line_up.specs.keep.Piles.Chosen.{end, pass, choose}

pub clash : {A : Type 0} (b : Bool) → b ≡ true → b ≡ false → A
clash b p q = let z : ◌≡◌ {A = ℕ} 0 1 = ap (λ (c : Bool). cond c 0 1) (sym p ∙ q) in let w : ⊥ = omega arith in absurd w

-- the stamp at place x is not earlier than the last of any of the first q piles
abbrev pub Past : (ℕ → ℕ → Bool) → ℕ → ℕ → List ℕ → Type 0
Past lt x zero ts = Unit
Past lt x (suc q) [] = ⊥
Past lt x (suc q) (t ∷ ts) = (lt x t ≡ false) × Past lt x q ts

-- the first of the places may follow the first q piles
abbrev pub Starts : (ℕ → ℕ → Bool) → ℕ → List ℕ → List ℕ → Type 0
Starts lt q [] ts = q ≤ length ts
Starts lt q (x ∷ xs) ts = Past lt x q ts

module _ (ok : ℕ → Type 0) (lt : ℕ → ℕ → Bool) where
  laid-ok-by : (c : Bool) (i t : ℕ) (ts us : List ℕ) → ok i → ok t → All ok ts → All ok us → All ok (cond c (i ∷ ts) (t ∷ us))
  laid-ok-by true i t ts us a b d e = (a, d)
  laid-ok-by false i t ts us a b d e = (b, e)

  pub laid-ok : (i : ℕ) (ts : List ℕ) → ok i → All ok ts → All ok (laid lt i ts)
  unfolding laid
  laid-ok i [] a b = (a, tt)
  laid-ok i (t ∷ ts) a b = laid-ok-by (lt i t) i t ts (laid lt i ts) a b.0 b.1 (laid-ok i ts a b.1)

module _ (lt : ℕ → ℕ → Bool) where
  laid-longer-by : (c : Bool) (i t : ℕ) (ts us : List ℕ) → length ts ≤ length us → suc (length ts) ≤ length (cond c (i ∷ ts) (t ∷ us))
  laid-longer-by true i t ts us h = omega arith
  laid-longer-by false i t ts us h = omega arith

  pub laid-longer : (i : ℕ) (ts : List ℕ) → length ts ≤ length (laid lt i ts)
  unfolding laid
  laid-longer i [] = omega arith
  laid-longer i (t ∷ ts) = laid-longer-by (lt i t) i t ts (laid lt i ts) (laid-longer i ts)

  rank-within-by : (c : Bool) (i t p : ℕ) (ts us : List ℕ) → suc p ≤ length us → suc (cond c 0 (suc p)) ≤ length (cond c (i ∷ ts) (t ∷ us))
  rank-within-by true i t p ts us h = omega arith
  rank-within-by false i t p ts us h = omega arith

  -- the pile on which a stamp goes is one of the piles
  pub rank-within : (i : ℕ) (ts : List ℕ) → suc (piles_before lt i ts) ≤ length (laid lt i ts)
  unfolding laid piles_before
  rank-within i [] = omega arith
  rank-within i (t ∷ ts) = rank-within-by (lt i t) i t (piles_before lt i ts) ts (laid lt i ts) (rank-within i ts)

  within_by : (c : Bool) (t q p : ℕ) → c ≡ false → q ≤ p → suc q ≤ cond c 0 (suc p)
  within_by true t q p e h = clash true refl e
  within_by false t q p e h = omega arith

  past-before : (i q : ℕ) (ts : List ℕ) → Past lt i q ts → q ≤ piles_before lt i ts
  unfolding piles_before
  past-before i zero ts p = omega arith
  past-before i (suc q) [] p = absurd p
  past-before i (suc q) (t ∷ ts) p = within_by (lt i t) t q (piles_before lt i ts) p.0 (past-before i q ts p.1)

  past-length : (i q : ℕ) (ts : List ℕ) → Past lt i q ts → q ≤ length ts
  past-length i zero ts p = omega arith
  past-length i (suc q) [] p = absurd p
  past-length i (suc q) (t ∷ ts) p = let h = past-length i q ts p.1 in omega arith

module _ (ok : ℕ → Type 0) (lt : ℕ → ℕ → Bool) (order : OrderLaws ok lt) where
  pub not_before : (c : Bool) (x i t : ℕ) → ok x → ok i → ok t → lt i t ≡ true → lt x t ≡ false → lt x i ≡ c → c ≡ false
  not_before true x i t ox oi ot a b e = clash (lt x t) (order.less x i t ox oi ot e a) b
  not_before false x i t ox oi ot a b e = refl

  past-laid-by : (c : Bool) (i x q t : ℕ) (ts us : List ℕ) → lt i t ≡ c → ok i → ok x → ok t → lt x t ≡ false → Past lt x q ts → Past lt x q us
      → Past lt x (suc q) (cond c (i ∷ ts) (t ∷ us))
  past-laid-by true i x q t ts us e oi ox ot h p r = (not_before (lt x i) x i t ox oi ot e h refl, p)
  past-laid-by false i x q t ts us e oi ox ot h p r = (h, r)

  -- a stamp that is laid and not chosen takes nothing away from a later one
  past-laid : (i x q : ℕ) (ts : List ℕ) → ok i → ok x → All ok ts → Past lt x q ts → Past lt x q (laid lt i ts)
  unfolding laid
  past-laid i x zero ts oi ox os p = tt
  past-laid i x (suc q) [] oi ox os p = absurd p
  past-laid i x (suc q) (t ∷ ts) oi ox os p =
      past-laid-by (lt i t) i x q t ts (laid lt i ts) refl oi ox os.0 p.0 p.1 (past-laid i x q ts oi ox os.1 p.1)

  past-chosen-by : (c : Bool) (i y p t : ℕ) (ts us : List ℕ) → lt i t ≡ c → ok i → ok y → ok t → lt y i ≡ false → Past lt y (suc p) us
      → Past lt y (suc (cond c 0 (suc p))) (cond c (i ∷ ts) (t ∷ us))
  past-chosen-by true i y p t ts us e oi oy ot h r = (h, tt)
  past-chosen-by false i y p t ts us e oi oy ot h r = (order.not_less t i y ot oi oy e h, r)

  -- one that is chosen leads the next one to a later pile
  past-chosen : (i y : ℕ) (ts : List ℕ) → ok i → ok y → All ok ts → lt y i ≡ false → Past lt y (suc (piles_before lt i ts)) (laid lt i ts)
  unfolding laid piles_before
  past-chosen i y [] oi oy os h = (h, tt)
  past-chosen i y (t ∷ ts) oi oy os h =
      past-chosen-by (lt i t) i y (piles_before lt i ts) t ts (laid lt i ts) refl oi oy os.0 h (past-chosen i y ts oi oy os.1 h)

  pub chosen_ok : {i : ℕ} {ns xs : List ℕ} → Chosen i ns xs → EachZero ok i ns → All ok xs
  chosen_ok end a = tt
  chosen_ok (pass c) a = chosen_ok c a.1
  chosen_ok (choose e c) a = (a.0 e, chosen_ok c a.1)

  starts-passed : (i q : ℕ) (xs ts : List ℕ) → ok i → All ok xs → All ok ts → Starts lt q xs ts → Starts lt q xs (laid lt i ts)
  starts-passed i q [] ts oi ox os s = omega (arith, laid-longer lt i ts)
  starts-passed i q (x ∷ xs) ts oi ox os s = past-laid i x q ts oi ox.0 os s

  starts-chosen : (i : ℕ) (xs ts : List ℕ) → ok i → All ok xs → All ok ts → After lt i xs → Starts lt (suc (piles_before lt i ts)) xs (laid lt i ts)
  starts-chosen i [] ts oi ox os a = rank-within lt i ts
  starts-chosen i (y ∷ ys) ts oi ox os a = past-chosen i y ts oi ox.0 os a

  after-passed : (c : Bool) (n i q : ℕ) (xs ts : List ℕ) → eqb n 0 ≡ c → (n ≡ 0 → ok i) → All ok xs → All ok ts → Starts lt q xs ts
      → (All ok (cond c (laid lt i ts) ts)) × Starts lt q xs (cond c (laid lt i ts) ts)
  after-passed true n i q xs ts e oi ox os s = let o = oi (eqb-true n 0 e) in (laid-ok ok lt i ts o os, starts-passed i q xs ts o ox os s)
  after-passed false n i q xs ts e oi ox os s = (os, s)

  -- xs may follow the first q piles: with them it is no longer than the piles are many
  pub no_longer : {i : ℕ} {ns xs : List ℕ} → Chosen i ns xs → (ts : List ℕ) (q : ℕ) → EachZero ok i ns → All ok ts → Rises lt xs → Starts lt q xs ts
      → q + length xs ≤ length (all_laid lt i ns ts)
  unfolding all_laid
  no_longer end ts q al os r s = omega arith
  no_longer {i} {ns = n ∷ ns} {xs} (pass c) ts q al os r s =
      let a = after-passed (eqb n 0) n i q xs ts refl al.0 (chosen_ok c al.1) os s in
      no_longer c (piles_after lt n i ts) q al.1 a.0 r a.1
  no_longer {i} {ns = n ∷ ns} {xs = x ∷ xs} (choose e c) ts q al os r s =
      let o = al.0 e in
      let z : eqb n 0 ≡ true = eq-eqb n 0 e in
      let h : suc (piles_before lt i ts) + length xs ≤ length (all_laid lt (suc i) ns (laid lt i ts)) =
      no_longer c (laid lt i ts) (suc (piles_before lt i ts)) al.1 (laid-ok ok lt i ts o os) r.1
      (starts-chosen i xs ts o (chosen_ok c al.1) os r.0) in
      let k : q ≤ piles_before lt i ts = past-before lt i q ts s in
      rw z (omega arith)
