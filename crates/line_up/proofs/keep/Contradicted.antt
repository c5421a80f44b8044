-- Who is left out contradicts a stamp that is kept: else it could be kept too, and more would rise. Assumes nothing.
use Prim.Native.Nat.{ℕ, suc, ◌-◌, ◌<◌, ◌≤◌}
use native.Mathlib.Omega.{arith}
use mathlib.Core.Path.{◌≡◌, refl, sym, ap, ◌∙◌, subst}
use mathlib.Core.Bool.{Bool, true, false, cond}
use mathlib.Core.Logic.{◌⊎◌, inl, inr}
use mathlib.Core.List.{List, [], ◌∷◌}
use lib.Dec.{eqb, ltb}
use lib.ListN.{length, get_or}
use borrow.Author.Tests.{eqb-true, eqb-false, ltb-true, ltb-false, lt-ltb, le-ltb}
use Rattle.line_up.specs.keep.Piles.{most_kept, zeros, Chosen, After, Rises, Upward, EachZero, OrderLaws, Contradicted}
use Rattle.line_up.specs.keep.Piles.Chosen.{end, pass, choose}
use Rattle.line_up.proofs.keep.Theorems.{kept-chosen, kept-rises, kept-most}

-- place p among places that go up
abbrev put : ℕ → List ℕ → List ℕ
put p [] = p ∷ []
put p (x ∷ xs) = cond (ltb p x) (p ∷ x ∷ xs) (x ∷ put p xs)

-- p is none of them
abbrev None : ℕ → List ℕ → Type 0
None p [] = Unit
None p (x ∷ xs) = (p ≡ x → ⊥) × None p xs

put-longer-by : (c : Bool) (p x : ℕ) (xs ys : List ℕ) → length ys ≡ suc (length xs) → length (cond c (p ∷ x ∷ xs) (x ∷ ys)) ≡ suc (suc (length xs))
put-longer-by true p x xs ys e = refl
put-longer-by false p x xs ys e = ap suc e

put-longer : (p : ℕ) (xs : List ℕ) → length (put p xs) ≡ suc (length xs)
put-longer p [] = refl
put-longer p (x ∷ xs) = put-longer-by (ltb p x) p x xs (put p xs) (put-longer p xs)

-- ---- it is a choice

chosen_up : {i : ℕ} {ns xs : List ℕ} → Chosen i ns xs → (j : ℕ) → j ≤ i → Upward j xs
chosen_up end j h = tt
chosen_up (pass c) j h = chosen_up c j (omega arith)
chosen_up {i} (choose e c) j h = (h, chosen_up c (suc i) (omega arith))

put_first : (p : ℕ) (xs : List ℕ) → Upward (suc p) xs → put p xs ≡ p ∷ xs
put_first p [] u = refl
put_first p (x ∷ xs) u = rw (lt-ltb p x (omega (arith, u.0)))

put-pass-by : (c : Bool) (i n p : ℕ) (ns xs : List ℕ) → eqb p i ≡ c → i ≤ p → get_or (n ∷ ns) (p - i) 1 ≡ 0 → Chosen (suc i) ns xs
    → (suc i ≤ p → get_or ns (p - suc i) 1 ≡ 0 → Chosen (suc i) ns (put p xs)) → Chosen i (n ∷ ns) (put p xs)
put-pass-by true i n p ns xs e h z c f =
    let d : p ≡ i = eqb-true p i e in
    let k : p - i ≡ 0 = omega arith in
    let m : n ≡ 0 = sym (ap (λ (q : ℕ). get_or (n ∷ ns) q 1) k) ∙ z in
    let u : put i xs ≡ i ∷ xs = put_first i xs (chosen_up c (suc i) (omega arith)) in
    subst (λ (q : ℕ). Chosen i (n ∷ ns) (put q xs)) (sym d) (rw u (choose m c))
put-pass-by false i n p ns xs e h z c f =
    let d : p ≡ i → ⊥ = eqb-false p i e in
    let k : p - i ≡ suc (p - suc i) = omega (arith, d) in
    pass (f (omega (arith, d)) (sym (ap (λ (q : ℕ). get_or (n ∷ ns) q 1) k) ∙ z))

put-chosen : {i : ℕ} {ns xs : List ℕ} → Chosen i ns xs → (p : ℕ) → i ≤ p → get_or ns (p - i) 1 ≡ 0 → None p xs → Chosen i ns (put p xs)
put-chosen end p h z o = let w : ⊥ = omega (arith, z) in absurd w
put-chosen {i} {ns = n ∷ ns} {xs} (pass c) p h z o = put-pass-by (eqb p i) i n p ns xs refl h z c (λ k y. put-chosen c p k y o)
put-chosen {i} {ns = n ∷ ns} {xs = x ∷ xs} (choose e c) p h z o =
    let d : p ≡ i → ⊥ = o.0 in
    let k : p - i ≡ suc (p - suc i) = omega (arith, d) in
    rw (le-ltb p i h) (choose e (put-chosen c p (omega (arith, d)) (sym (ap (λ (q : ℕ). get_or (n ∷ ns) q 1) k) ∙ z) o.1))

-- ---- it rises, or something contradicts it

module _ (lt : ℕ → ℕ → Bool) (p : ℕ) where
  later-by : (b : Bool) (q x : ℕ) (xs : List ℕ) → lt x p ≡ b → p < x → After lt x xs → Rises lt xs → Contradicted lt p (x ∷ xs)
      ⊎ (Rises lt (p ∷ x ∷ xs) × (lt p q ≡ false → lt x q ≡ false → lt p q ≡ false))
  later-by true q x xs e h a r = inl (inl (inr (h, e)))
  later-by false q x xs e h a r = inr ((e, (a, r)), λ f g. f)

  behind : (b : Bool) (q x : ℕ) (xs : List ℕ) → lt p x ≡ b → (p ≡ x → ⊥) → x ≤ p → After lt x xs → Contradicted lt p xs
      ⊎ (Rises lt (put p xs) × (lt p x ≡ false → After lt x xs → After lt x (put p xs)))
      → Contradicted lt p (x ∷ xs) ⊎ (Rises lt (x ∷ put p xs) × (lt p q ≡ false → lt x q ≡ false → lt x q ≡ false))
  behind true q x xs e d h a t = inl (inl (inl (omega (arith, d), e)))
  behind false q x xs e d h a (inl t) = inl (inr t)
  behind false q x xs e d h a (inr t) = inr ((t.1 e a, t.0), λ f g. g)

  either_by : (c : Bool) (q x : ℕ) (xs : List ℕ) → ltb p x ≡ c → (p ≡ x → ⊥) → After lt x xs → Rises lt xs → Contradicted lt p xs
      ⊎ (Rises lt (put p xs) × (lt p x ≡ false → After lt x xs → After lt x (put p xs)))
      → Contradicted lt p (x ∷ xs) ⊎ (Rises lt (cond c (p ∷ x ∷ xs) (x ∷ put p xs))
      × (lt p q ≡ false → lt x q ≡ false → After lt q (cond c (p ∷ x ∷ xs) (x ∷ put p xs))))
  either_by true q x xs e d a r t = later-by (lt x p) q x xs refl (ltb-true p x e) a r
  either_by false q x xs e d a r t = behind (lt p x) q x xs refl d (ltb-false p x e) a t

  either : (q : ℕ) (xs : List ℕ) → None p xs → Rises lt xs → Contradicted lt p xs
      ⊎ (Rises lt (put p xs) × (lt p q ≡ false → After lt q xs → After lt q (put p xs)))
  either q [] o r = inr ((tt, tt), λ f g. f)
  either q (x ∷ xs) o r = either_by (ltb p x) q x xs refl o.0 r.0 r.1 (either x xs o.1 r.1)

-- ---- who is left out is none of those that are kept

none-by : (c : Bool) (p i m : ℕ) (xs : List ℕ) → eqb m 0 ≡ c → (p ≡ i → m ≡ 0 → ⊥) → None p xs → None p (cond c (i ∷ xs) xs)
none-by true p i m xs e h o = ((λ d. h d (eqb-true m 0 e)), o)
none-by false p i m xs e h o = o

none-low : (p i : ℕ) (ms : List ℕ) → p < i → None p (zeros i ms)
unfolding zeros
none-low p i [] h = tt
none-low p i (m ∷ ms) h = none-by (eqb m 0) p i m (zeros (suc i) ms) refl (λ d e. omega (arith, d, h)) (none-low p (suc i) ms (omega arith))

none-left-out-by : (c : Bool) (p i m : ℕ) (ms : List ℕ) → eqb p i ≡ c → i ≤ p → (get_or (m ∷ ms) (p - i) 0 ≡ 0 → ⊥)
    → (suc i ≤ p → (get_or ms (p - suc i) 0 ≡ 0 → ⊥) → None p (zeros (suc i) ms)) → None p (cond (eqb m 0) (i ∷ zeros (suc i) ms) (zeros (suc i) ms))
none-left-out-by true p i m ms e h z f =
    let d : p ≡ i = eqb-true p i e in
    let k : p - i ≡ 0 = omega arith in
    none-by (eqb m 0) p i m (zeros (suc i) ms) refl (λ q y. z (ap (λ (j : ℕ). get_or (m ∷ ms) j 0) k ∙ y)) (none-low p (suc i) ms (omega arith))
none-left-out-by false p i m ms e h z f =
    let d : p ≡ i → ⊥ = eqb-false p i e in
    let k : p - i ≡ suc (p - suc i) = omega (arith, d) in
    none-by (eqb m 0) p i m (zeros (suc i) ms) refl (λ q y. d q) (f (omega (arith, d)) (λ y. z (ap (λ (j : ℕ). get_or (m ∷ ms) j 0) k ∙ y)))

none-left-out : (p i : ℕ) (ms : List ℕ) → i ≤ p → (get_or ms (p - i) 0 ≡ 0 → ⊥) → None p (zeros i ms)
unfolding zeros
none-left-out p i [] h z = tt
none-left-out p i (m ∷ ms) h z = none-left-out-by (eqb p i) p i m ms refl h z (λ k y. none-left-out p (suc i) ms k y)

module _ (ok : ℕ → Type 0) (lt : ℕ → ℕ → Bool) (order : OrderLaws ok lt) (i : ℕ) (ns : List ℕ) (oks : EachZero ok i ns) where
  too_long : (p : ℕ) → i ≤ p → get_or ns (p - i) 1 ≡ 0 → None p (zeros i (most_kept lt i ns)) → Rises lt (put p (zeros i (most_kept lt i ns))) → ⊥
  too_long p h z o r =
      let k = kept-most ok lt order i ns oks (put p (zeros i (most_kept lt i ns))) (put-chosen (kept-chosen lt i ns) p h z o) r in
      omega (arith, k, put-longer p (zeros i (most_kept lt i ns)))

  decide : (p : ℕ) → i ≤ p → get_or ns (p - i) 1 ≡ 0 → None p (zeros i (most_kept lt i ns)) → Contradicted lt p (zeros i (most_kept lt i ns))
      ⊎ (Rises lt (put p (zeros i (most_kept lt i ns)))
      × (lt p p ≡ false → After lt p (zeros i (most_kept lt i ns)) → After lt p (put p (zeros i (most_kept lt i ns)))))
      → Contradicted lt p (zeros i (most_kept lt i ns))
  decide p h z o (inl c) = c
  decide p h z o (inr r) = absurd (too_long p h z o r.0)

  -- (5) a stamp that came in with number 0 and is left out is earlier than a kept one before it, or later than a kept one behind it
  pub left-out-contradicted : (p : ℕ) → i ≤ p → get_or ns (p - i) 1 ≡ 0 → (get_or (most_kept lt i ns) (p - i) 0 ≡ 0 → ⊥)
      → Contradicted lt p (zeros i (most_kept lt i ns))
  left-out-contradicted p h z t =
      let o = none-left-out p i (most_kept lt i ns) h t in
      decide p h z o (either lt p p (zeros i (most_kept lt i ns)) o (kept-rises lt i ns))
