-- BYTES SET ONE AFTER THE OTHER from index i on: those places hold them, and all others what they held. Assumes nothing.
use Prim.Native.Nat.{ℕ, zero, suc, ◌+◌, ◌<◌, ◌≤◌}
use native.Mathlib.Omega.{arith}
use mathlib.Core.Path.{◌≡◌, refl, ap, ◌∙◌}
use mathlib.Core.Logic.{◌⊎◌, inl, inr}
use mathlib.Core.List.{List, [], ◌∷◌}
use lib.ListN.{length, get_or, set, length-set}
use lib.Seq.{sets, get_or-set_same, get_or-set_other}

pub set_outside : (vs l : List ℕ) (i j : ℕ) → (j < i) ⊎ (i + length vs ≤ j) → get_or (sets l i vs) j 0 ≡ get_or l j 0
set_outside [] l i j h = refl
set_outside (a ∷ vs) l i j h = set_outside vs (set l i a) (suc i) j (next h) ∙ get_or-set_other l i j a 0 (apart h)
  where
    next : (j < i) ⊎ (i + suc (length vs) ≤ j) → (j < suc i) ⊎ (suc i + length vs ≤ j)
    next (inl p) = inl (omega arith)
    next (inr p) = inr (omega arith)

    apart : (j < i) ⊎ (i + suc (length vs) ≤ j) → j ≡ i → ⊥
    apart (inl p) e = omega arith
    apart (inr p) e = omega arith

pub set_inside : (vs l : List ℕ) (i k : ℕ) → i + length vs ≤ length l → k < length vs → get_or (sets l i vs) (i + k) 0 ≡ get_or vs k 0
set_inside [] l i k h b = let w : ⊥ = omega arith in absurd w
set_inside (a ∷ vs) l i zero h b =
    let e : i + 0 ≡ i = omega arith in
    ap (λ (j : ℕ). get_or (sets (set l i a) (suc i) vs) j 0) e ∙ set_outside vs (set l i a) (suc i) i (inl (omega arith)) ∙ get_or-set_same l i a 0
    (omega arith)
set_inside (a ∷ vs) l i (suc k) h b =
    let e : i + suc k ≡ suc i + k = omega arith in
    ap (λ (j : ℕ). get_or (sets (set l i a) (suc i) vs) j 0) e ∙ set_inside vs (set l i a) (suc i) k (omega (arith, length-set l i a)) (omega arith)
