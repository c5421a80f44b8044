-- The merge: it loses and doubles no place, and it rises. Assumes nothing.
use Prim.Native.Nat.{ℕ, suc, ◌+◌, ◌<◌, ◌≤◌}
use native.Mathlib.Omega.{arith}
use mathlib.Core.Path.{◌≡◌, refl, sym, ap, ◌∙◌, subst}
use mathlib.Core.Bool.{Bool, true, false, cond}
use mathlib.Core.List.{List, [], ◌∷◌}
use lib.ListN.{length}
use Rattle.line_up.specs.Runs.{into, merge, once, times_in, MayFollow, FirstMayFollow, Rising}

-- ---- counts

module _ (lt : ℕ → ℕ → Bool) (i : ℕ) where
  times_in-pick : (b : Bool) (x y r s : ℕ) (xs ys : List ℕ) → times_in i xs ≡ r → times_in i ys ≡ s → once i y + r ≡ once i x + s
      → times_in i (cond b (y ∷ xs) (x ∷ ys)) ≡ once i x + s
  unfolding times_in
  times_in-pick true x y r s xs ys h k e = omega arith
  times_in-pick false x y r s xs ys h k e = omega arith

  times_in-into : (x c : ℕ) (rest : List ℕ → List ℕ) → ((ys : List ℕ) → times_in i (rest ys) ≡ c + times_in i ys) → (ys : List ℕ)
      → times_in i (into lt x rest ys) ≡ once i x + (c + times_in i ys)
  unfolding into times_in
  times_in-into x c rest h [] = omega (arith, h [])
  times_in-into x c rest h (y ∷ ys) =
      times_in-pick (lt y x) x y (once i x + (c + times_in i ys)) (c + (once i y + times_in i ys)) (into lt x rest ys) (rest (y ∷ ys))
      (times_in-into x c rest h ys) (h (y ∷ ys)) (omega arith)

  pub times_in-merge : (xs ys : List ℕ) → times_in i (merge lt xs ys) ≡ times_in i xs + times_in i ys
  unfolding merge times_in
  times_in-merge [] ys = omega arith
  times_in-merge (x ∷ xs) ys = omega (arith, times_in-into x (times_in i xs) (merge lt xs) (times_in-merge xs) ys)

-- ---- lengths

module _ (lt : ℕ → ℕ → Bool) where
  length-pick : (b : Bool) (x y r : ℕ) (xs ys : List ℕ) → length xs ≡ r → length ys ≡ r → length (cond b (y ∷ xs) (x ∷ ys)) ≡ suc r
  length-pick true x y r xs ys h k = ap suc h
  length-pick false x y r xs ys h k = ap suc k

  length-into : (x c : ℕ) (rest : List ℕ → List ℕ) → ((ys : List ℕ) → length (rest ys) ≡ c + length ys) → (ys : List ℕ)
      → length (into lt x rest ys) ≡ suc (c + length ys)
  unfolding into
  length-into x c rest h [] = ap suc (h [])
  length-into x c rest h (y ∷ ys) =
      length-pick (lt y x) x y (c + suc (length ys)) (into lt x rest ys) (rest (y ∷ ys)) (omega (arith, length-into x c rest h ys)) (h (y ∷ ys))

  pub length-merge : (xs ys : List ℕ) → length (merge lt xs ys) ≡ length xs + length ys
  unfolding merge
  length-merge [] ys = omega arith
  length-merge (x ∷ xs) ys = omega (arith, length-into x (length xs) (merge lt xs) (length-merge xs) ys)

-- ---- bounds of the places

abbrev pub Under : ℕ → List ℕ → Type 0
Under b [] = Unit
Under b (x ∷ xs) = (x < b) × Under b xs

abbrev pub From : ℕ → List ℕ → Type 0
From b [] = Unit
From b (x ∷ xs) = (b ≤ x) × From b xs

pub under_more : {a b : ℕ} → a ≤ b → (xs : List ℕ) → Under a xs → Under b xs
under_more h [] u = tt
under_more h (x ∷ xs) u = (omega (arith, h, u.0), under_more h xs u.1)

module _ (lt : ℕ → ℕ → Bool) (b : ℕ) where
  under-pick : (t : Bool) (x y : ℕ) (xs ys : List ℕ) → x < b → y < b → Under b xs → Under b ys → Under b (cond t (y ∷ xs) (x ∷ ys))
  under-pick true x y xs ys h k u v = (k, u)
  under-pick false x y xs ys h k u v = (h, v)

  under-into : (x : ℕ) (rest : List ℕ → List ℕ) → x < b → ((ys : List ℕ) → Under b ys → Under b (rest ys)) → (ys : List ℕ) → Under b ys
      → Under b (into lt x rest ys)
  unfolding into
  under-into x rest h r [] u = (h, r [] tt)
  under-into x rest h r (y ∷ ys) u = under-pick (lt y x) x y (into lt x rest ys) (rest (y ∷ ys)) h u.0 (under-into x rest h r ys u.1) (r (y ∷ ys) u)

  pub under-merge : (xs ys : List ℕ) → Under b xs → Under b ys → Under b (merge lt xs ys)
  unfolding merge
  under-merge [] ys u v = v
  under-merge (x ∷ xs) ys u v = under-into x (merge lt xs) u.0 (λ zs w. under-merge xs zs u.1 w) ys v

-- ---- rising

module _ (lt : ℕ → ℕ → Bool) (anti : (x y : ℕ) → lt x y ≡ true → lt y x ≡ false) where
  after-pick : (t : Bool) (w x y : ℕ) (xs ys : List ℕ) → MayFollow lt w x → MayFollow lt w y → FirstMayFollow lt w (cond t (y ∷ xs) (x ∷ ys))
  after-pick true w x y xs ys f g = g
  after-pick false w x y xs ys f g = f

  after-into : (w x : ℕ) (rest : List ℕ → List ℕ) (ys : List ℕ) → MayFollow lt w x → FirstMayFollow lt w ys → FirstMayFollow lt w (into lt x rest ys)
  unfolding into
  after-into w x rest [] f a = f
  after-into w x rest (y ∷ ys) f a = after-pick (lt y x) w x y (into lt x rest ys) (rest (y ∷ ys)) f a

  after-merge : (w : ℕ) (xs ys : List ℕ) → FirstMayFollow lt w xs → FirstMayFollow lt w ys → FirstMayFollow lt w (merge lt xs ys)
  unfolding merge
  after-merge w [] ys a b = b
  after-merge w (x ∷ xs) ys a b = after-into w x (merge lt xs) ys a b

  earlier-follows : (x y : ℕ) → lt y x ≡ true → MayFollow lt y x
  earlier-follows x y p = record {
    late = anti y x p;
    tied = λ q. let z : true ≡ false = sym p ∙ q in absurd (subst is_true z tt);
  }
    where
      is_true : Bool → Type 0
      is_true true = Unit
      is_true false = ⊥

  module _ (b : ℕ) where
    rising-pick : (t : Bool) (x y : ℕ) (xs ys : List ℕ) → lt y x ≡ t → (lt y x ≡ true → FirstMayFollow lt y xs) → (lt y x ≡ false → FirstMayFollow lt x ys)
        → Rising lt xs
        → Rising lt ys → Rising lt (cond t (y ∷ xs) (x ∷ ys))
    rising-pick true x y xs ys p f g r s = (f p, r)
    rising-pick false x y xs ys p f g r s = (g p, s)

    rising-into : (x : ℕ) (rest : List ℕ → List ℕ) → x < b → ((ys : List ℕ) → From b ys → Rising lt ys → Rising lt (rest ys))
        → ((ys : List ℕ) → FirstMayFollow lt x ys → FirstMayFollow lt x (rest ys))
        → (ys : List ℕ) → From b ys → Rising lt ys → Rising lt (into lt x rest ys)
    unfolding into
    rising-into x rest h r a [] f s = (a [] tt, r [] tt tt)
    rising-into x rest h r a (y ∷ ys) f s =
        rising-pick (lt y x) x y (into lt x rest ys) (rest (y ∷ ys)) refl
        (λ p. after-into y x rest ys (earlier-follows x y p) s.0)
        (λ p. a (y ∷ ys) (record { late = p; tied = λ _. omega (arith, h, f.0) }))
        (rising-into x rest h r a ys f.1 s.1)
        (r (y ∷ ys) f s)

    pub rising-merge : (xs ys : List ℕ) → Under b xs → From b ys → Rising lt xs → Rising lt ys → Rising lt (merge lt xs ys)
    unfolding merge
    rising-merge [] ys u f r s = s
    rising-merge (x ∷ xs) ys u f r s =
        rising-into x (merge lt xs) u.0 (λ zs g t. rising-merge xs zs u.1 g r.1 t) (λ zs a. after-merge x xs zs r.0 a) ys f s
