-- From neighbours to any two of a list, and that one list only has the counts and the order. Assumes nothing.
use Prim.Native.Nat.{ℕ, ◌+◌, ◌<◌}
use native.Mathlib.Omega.{arith}
use mathlib.Core.Path.{◌≡◌, refl, sym, ap, subst}
use mathlib.Core.Bool.{Bool, true, false, cond}
use mathlib.Core.List.{List, [], ◌∷◌}
use lib.Dec.{eqb}
use borrow.Author.Tests.{eq-eqb, ne_eqb, eqb-true, eqb-false}
use Rattle.line_up.specs.Runs.{into, merge, once, times_in, MayFollow, FirstMayFollow, Rising}
use Rattle.line_up.specs.laws.Claims.{Each, Pairs}

-- ---- each

module _ (lt : ℕ → ℕ → Bool) (Good : ℕ → Type 0) where
  each-pick : (t : Bool) (x y : ℕ) (xs ys : List ℕ) → Good x → Good y → Each Good xs → Each Good ys → Each Good (cond t (y ∷ xs) (x ∷ ys))
  each-pick true x y xs ys g h e f = (h, e)
  each-pick false x y xs ys g h e f = (g, f)

  each-into : (x : ℕ) (rest : List ℕ → List ℕ) → Good x → ((ys : List ℕ) → Each Good ys → Each Good (rest ys)) → (ys : List ℕ) → Each Good ys
      → Each Good (into lt x rest ys)
  unfolding into
  each-into x rest g r [] e = (g, r [] tt)
  each-into x rest g r (y ∷ ys) e = each-pick (lt y x) x y (into lt x rest ys) (rest (y ∷ ys)) g e.0 (each-into x rest g r ys e.1) (r (y ∷ ys) e)

  pub each-merge : (xs ys : List ℕ) → Each Good xs → Each Good ys → Each Good (merge lt xs ys)
  unfolding merge
  each-merge [] ys e f = f
  each-merge (x ∷ xs) ys e f = each-into x (merge lt xs) e.0 (λ zs g. each-merge xs zs e.1 g) ys f

  -- ---- any two

  module _ (trans : (x y z : ℕ) → Good x → Good y → Good z → MayFollow lt x y → MayFollow lt y z → MayFollow lt x z) where
    reach : (w x : ℕ) (xs : List ℕ) → Good w → Good x → Each Good xs → MayFollow lt w x → FirstMayFollow lt x xs → Rising lt xs → Each (MayFollow lt w) xs
    reach w x [] gw gx e f a r = tt
    reach w x (y ∷ ys) gw gx e f a r =
        let g = trans w x y gw gx e.0 f a in
        (g, reach w y ys gw e.0 e.1 g r.0 r.1)

    head_reach : (x : ℕ) (xs : List ℕ) → Good x → Each Good xs → FirstMayFollow lt x xs → Rising lt xs → Each (MayFollow lt x) xs
    head_reach x [] g e a r = tt
    head_reach x (y ∷ ys) g e a r = (a, reach x y ys g e.0 e.1 a r.0 r.1)

    pub rising-pairs : (xs : List ℕ) → Each Good xs → Rising lt xs → Pairs (MayFollow lt) xs
    rising-pairs [] e r = tt
    rising-pairs (x ∷ xs) e r = (head_reach x xs e.0 e.1 r.0 r.1, rising-pairs xs e.1 r.1)

-- ---- another relation on good places

pub each_map : (P Q R : ℕ → Type 0) → ((y : ℕ) → P y → Q y → R y) → (xs : List ℕ) → Each P xs → Each Q xs → Each R xs
each_map P Q R f [] e g = tt
each_map P Q R f (x ∷ xs) e g = (f x e.0 g.0, each_map P Q R f xs e.1 g.1)

pub pairs_map : (Good : ℕ → Type 0) (R S : ℕ → ℕ → Type 0) → ((x y : ℕ) → Good x → Good y → R x y → S x y) → (xs : List ℕ) → Each Good xs → Pairs R xs
    → Pairs S xs
pairs_map Good R S f [] e p = tt
pairs_map Good R S f (x ∷ xs) e p = (each_map Good (R x) (S x) (λ y g r. f x y e.0 g r) xs e.1 p.0, pairs_map Good R S f xs e.1 p.1)

-- ---- one list only

member_by : (Q : ℕ → Type 0) (p x : ℕ) (t : Bool) (xs : List ℕ) → eqb p x ≡ t → Q x → (0 < times_in p xs → Q p) → 0 < cond t 1 0 + times_in p xs → Q p
member_by Q p x true xs e q h k = subst Q (sym (eqb-true p x e)) q
member_by Q p x false xs e q h k = h (omega arith)

pub member : (Q : ℕ → Type 0) (p : ℕ) (xs : List ℕ) → Each Q xs → 0 < times_in p xs → Q p
unfolding times_in
member Q p [] e h = let z : ⊥ = omega arith in absurd z
member Q p (x ∷ xs) e h = member_by Q p x (eqb p x) xs refl e.0 (member Q p xs e.1) h

there-by : (p : ℕ) (x : ℕ) (xs : List ℕ) → 0 < times_in p xs → 0 < times_in p (x ∷ xs)
unfolding times_in
there-by p x xs h = omega arith

there : (x : ℕ) (xs : List ℕ) → 0 < times_in x (x ∷ xs)
unfolding times_in
there x xs = rw (eq-eqb x x refl) (omega arith)

pub each-of-times_in : (Q : ℕ → Type 0) (xs : List ℕ) → ((p : ℕ) → 0 < times_in p xs → Q p) → Each Q xs
each-of-times_in Q [] h = tt
each-of-times_in Q (x ∷ xs) h = (h x (there x xs), each-of-times_in Q xs (λ p k. h p (there-by p x xs k)))

module _ (lt : ℕ → ℕ → Bool) where
  follows-asym : (x y : ℕ) → MayFollow lt x y → MayFollow lt y x → ⊥
  follows-asym x y f g = omega (arith, f.tied g.late, g.tied f.late)

  one_more : (x : ℕ) (xs : List ℕ) → times_in x (x ∷ xs) ≡ 1 + times_in x xs
  unfolding times_in
  one_more x xs = rw (eq-eqb x x refl)

  not_there : (x y : ℕ) (ys : List ℕ) → (x ≡ y → ⊥) → times_in x (y ∷ ys) ≡ times_in x ys
  unfolding times_in
  not_there x y ys h = rw (ne_eqb x y h) (omega arith)

  same-tail : (x y p : ℕ) (xs ys : List ℕ) → x ≡ y → times_in p (x ∷ xs) ≡ times_in p (y ∷ ys) → times_in p xs ≡ times_in p ys
  unfolding times_in
  same-tail x y p xs ys e h =
      let k : once p x ≡ once p y = ap (once p) e in
      omega (arith, h, k)

  same_head : (t : Bool) (x y : ℕ) (xs ys : List ℕ) → eqb x y ≡ t → Pairs (MayFollow lt) (x ∷ xs) → Pairs (MayFollow lt) (y ∷ ys)
      → ((p : ℕ) → times_in p (x ∷ xs) ≡ times_in p (y ∷ ys)) → x ≡ y
  same_head true x y xs ys e a b h = eqb-true x y e
  same_head false x y xs ys e a b h =
      let n : x ≡ y → ⊥ = eqb-false x y e in
      let i : 0 < times_in x ys = omega (arith, h x, one_more x xs, not_there x y ys n) in
      let j : 0 < times_in y xs = omega (arith, h y, one_more y ys, not_there y x xs (λ q. n (sym q))) in
      absurd (follows-asym x y (member (MayFollow lt x) y xs a.0 j) (member (MayFollow lt y) x ys b.0 i))

  none : (q : ℕ) → times_in q [] ≡ 0
  unfolding times_in
  none q = refl

  pub one_list : (xs ys : List ℕ) → Pairs (MayFollow lt) xs → Pairs (MayFollow lt) ys → ((p : ℕ) → times_in p xs ≡ times_in p ys) → xs ≡ ys
  one_list [] [] a b h = refl
  one_list [] (y ∷ ys) a b h = let z : ⊥ = omega (arith, none y, h y, one_more y ys) in absurd z
  one_list (x ∷ xs) [] a b h = let z : ⊥ = omega (arith, none x, h x, one_more x xs) in absurd z
  one_list (x ∷ xs) (y ∷ ys) a b h =
      let e : x ≡ y = same_head (eqb x y) x y xs ys refl a b h in
      let t : xs ≡ ys = one_list xs ys a.1 b.1 (λ p. same-tail x y p xs ys e (h p)) in
      rw (e, t)
