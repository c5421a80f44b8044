-- One step of the merge of three lists: its first place leaves the list that it stands in. Assumes nothing.
use Prim.Native.Nat.{ℕ, ◌<◌, ◌≤◌}
use native.Mathlib.Omega.{arith}
use mathlib.Core.Path.{◌≡◌, refl, sym, ap, ◌∙◌}
use mathlib.Core.Bool.{Bool, true, false, cond}
use mathlib.Core.Logic.{◌⊎◌, inl, inr}
use mathlib.Core.List.{List, [], ◌∷◌}
use lib.Dec.{eqb}
use borrow.Author.Tests.{eq-eqb, ne_eqb, eqb-true, eqb-false, lt-ltb, le-ltb}
use Rattle.line_up.specs.Runs.{into, merge, first_or, pick}
use Rattle.line_up.proofs.Merges.{Under, From, under-merge}

-- the list without its first place, if that is p
abbrev pub adv : ℕ → List ℕ → List ℕ
adv p [] = []
adv p (x ∷ xs) = cond (eqb p x) xs (x ∷ xs)

module _ (lt : ℕ → ℕ → Bool) (n : ℕ) where
  pub adv_other : (p : ℕ) (xs : List ℕ) → (p ≡ first_or n xs → ⊥) → adv p xs ≡ xs
  adv_other p [] h = refl
  adv_other p (x ∷ xs) h = rw (ne_eqb p x h)

  adv_under : (b p : ℕ) (xs : List ℕ) → Under b xs → b ≤ p → adv p xs ≡ xs
  adv_under b p [] u h = refl
  adv_under b p (x ∷ xs) u h = rw (ne_eqb p x (λ e. omega (arith, e, h, u.0)))

  pub from_first : (b : ℕ) (zs : List ℕ) → From b zs → first_or n zs < n → b ≤ first_or n zs
  from_first b [] f h = let z : ⊥ = omega arith in absurd z
  from_first b (z ∷ zs) f h = f.0

  step-pick : (t : Bool) (b p x y : ℕ) (xs ys : List ℕ) → x < b → b ≤ y → p ≡ first_or n (cond t (y ∷ merge lt (x ∷ xs) ys) (x ∷ merge lt xs (y ∷ ys)))
      → cond t (y ∷ merge lt (x ∷ xs) ys) (x ∷ merge lt xs (y ∷ ys)) ≡ p ∷ merge lt (adv p (x ∷ xs)) (adv p (y ∷ ys))
  step-pick true b p x y xs ys h k e =
      rw (eq-eqb p y e, ne_eqb p x (λ q. omega (arith, e, q, h, k))) (ap (λ (z : ℕ). z ∷ merge lt (x ∷ xs) ys) (sym e))
  step-pick false b p x y xs ys h k e =
      rw (eq-eqb p x e, ne_eqb p y (λ q. omega (arith, e, q, h, k))) (ap (λ (z : ℕ). z ∷ merge lt xs (y ∷ ys)) (sym e))

  merge_step : (b p : ℕ) (xs ys : List ℕ) → Under b xs → From b ys → p < n → p ≡ first_or n (merge lt xs ys)
      → merge lt xs ys ≡ p ∷ merge lt (adv p xs) (adv p ys)
  unfolding merge into
  merge_step b p [] [] u f h e = let z : ⊥ = omega arith in absurd z
  merge_step b p [] (y ∷ ys) u f h e = rw (eq-eqb p y e) (ap (λ (z : ℕ). z ∷ ys) (sym e))
  merge_step b p (x ∷ xs) [] u f h e = rw (eq-eqb p x e) (ap (λ (z : ℕ). z ∷ merge lt xs []) (sym e))
  merge_step b p (x ∷ xs) (y ∷ ys) u f h e = step-pick (lt y x) b p x y xs ys u.0 f.0 e

  either_pick : (t : Bool) (x y : ℕ) (xs ys : List ℕ) → (first_or n (cond t (y ∷ xs) (x ∷ ys)) ≡ x) ⊎ (first_or n (cond t (y ∷ xs) (x ∷ ys)) ≡ y)
  either_pick true x y xs ys = inr refl
  either_pick false x y xs ys = inl refl

  first_either : (xs ys : List ℕ) → (first_or n (merge lt xs ys) ≡ first_or n xs) ⊎ (first_or n (merge lt xs ys) ≡ first_or n ys)
  unfolding merge into
  first_either [] ys = inr refl
  first_either (x ∷ xs) [] = inl refl
  first_either (x ∷ xs) (y ∷ ys) = either_pick (lt y x) x y (into lt x (merge lt xs) ys) (merge lt xs (y ∷ ys))

  module _ (a b p : ℕ) (X Y Z : List ℕ) (ab : a ≤ b) (ux : Under a X) (ux' : Under b X) (fy : From a Y) (uy : Under b Y) (fz : From b Z) (pn : p < n)
      (e : p ≡ first_or n (merge lt (merge lt X Y) Z)) where
    own : p ≡ first_or n (merge lt X Y) → adv p (merge lt X Y) ≡ merge lt (adv p X) (adv p Y)
    own q = ap (adv p) (merge_step a p X Y ux fy pn q) ∙ rw (eq-eqb p p refl)

    late : (p ≡ first_or n (merge lt X Y) → ⊥) → (first_or n (merge lt (merge lt X Y) Z) ≡ first_or n (merge lt X Y))
        ⊎ (first_or n (merge lt (merge lt X Y) Z) ≡ first_or n Z) → b ≤ p
    late q (inl r) = absurd (q (e ∙ r))
    late q (inr r) =
        let k : p ≡ first_or n Z = e ∙ r in
        omega (arith, from_first b Z fz (omega arith), k)

    other : (p ≡ first_or n (merge lt X Y) → ⊥) → adv p (merge lt X Y) ≡ merge lt (adv p X) (adv p Y)
    other q =
        let h : b ≤ p = late q (first_either (merge lt X Y) Z) in
        adv_other p (merge lt X Y) q ∙ rw (adv_under b p X ux' h, adv_under b p Y uy h)

    inner : (t : Bool) → eqb p (first_or n (merge lt X Y)) ≡ t → adv p (merge lt X Y) ≡ merge lt (adv p X) (adv p Y)
    inner true q = own (eqb-true p (first_or n (merge lt X Y)) q)
    inner false q = other (eqb-false p (first_or n (merge lt X Y)) q)

    pub three-step : merge lt (merge lt X Y) Z ≡ p ∷ merge lt (merge lt (adv p X) (adv p Y)) (adv p Z)
    three-step =
        merge_step b p (merge lt X Y) Z (under-merge lt b X Y ux' uy) fz pn e
        ∙ ap (λ (l : List ℕ). p ∷ merge lt l (adv p Z)) (inner (eqb p (first_or n (merge lt X Y))) refl)

  first-pick : (t : Bool) (x y : ℕ) (xs ys : List ℕ) → first_or n (cond t (y ∷ xs) (x ∷ ys)) ≡ cond t y x
  first-pick true x y xs ys = refl
  first-pick false x y xs ys = refl

  -- the first place of a merge, by the first places of the two
  pub first-merge : (xs ys : List ℕ) → Under n xs → Under n ys → first_or n (merge lt xs ys) ≡ pick lt n (first_or n xs) (first_or n ys)
  unfolding merge into pick
  first-merge [] [] u v = rw (le-ltb n n (omega arith))
  first-merge [] (y ∷ ys) u v = rw (lt-ltb y n v.0, le-ltb n n (omega arith))
  first-merge (x ∷ xs) [] u v = rw (le-ltb n n (omega arith))
  first-merge (x ∷ xs) (y ∷ ys) u v = rw (lt-ltb y n v.0, lt-ltb x n u.0) (first-pick (lt y x) x y (into lt x (merge lt xs) ys) (merge lt xs (y ∷ ys)))
