-- Who comes in with 0 and has no place in the order gets 9, and the others keep their number. Assumes nothing.
use Prim.Native.Nat.{ℕ, zero, suc, ◌+◌, ◌<◌}
use native.Mathlib.Omega.{arith}
use mathlib.Core.Path.{◌≡◌, refl, sym, ap, ◌∙◌}
use mathlib.Core.Bool.{Bool, true, false, cond, ◌&&◌}
use mathlib.Core.List.{List, [], ◌∷◌}
use lib.Dec.{eqb}
use lib.ListN.{length, get_or}
use borrow.Author.Tests.{eq-eqb, ne_eqb, eqb-true, eqb-false}
use Rattle.line_up.specs.Runs.{tested, all_tested}

pub tested_at : (unordered : ℕ → Bool) (i : ℕ) (ns : List ℕ) (p : ℕ) → p < length ns
    → get_or (all_tested unordered i ns) p 0 ≡ tested unordered (get_or ns p 0) (i + p)
unfolding all_tested
tested_at unordered i [] p h = let z : ⊥ = omega arith in absurd z
tested_at unordered i (n ∷ ns) zero h = let e : i ≡ i + 0 = omega arith in ap (tested unordered n) e
tested_at unordered i (n ∷ ns) (suc p) h = let e : suc i + p ≡ i + suc p = omega arith in tested_at unordered (suc i) ns p (omega arith)
    ∙ ap (tested unordered (get_or ns p 0)) e

module _ (unordered : ℕ → Bool) (ns : List ℕ) (p : ℕ) (h : p < length ns) where
  here : get_or (all_tested unordered 0 ns) p 0 ≡ tested unordered (get_or ns p 0) p
  here = let e : 0 + p ≡ p = omega arith in tested_at unordered 0 ns p h ∙ ap (tested unordered (get_or ns p 0)) e

  pub kept : (get_or ns p 0 ≡ 0 → ⊥) → get_or (all_tested unordered 0 ns) p 0 ≡ get_or ns p 0
  unfolding tested
  kept k = here ∙ rw (ne_eqb (get_or ns p 0) 0 k)

  pub nine : get_or ns p 0 ≡ 0 → unordered p ≡ true → get_or (all_tested unordered 0 ns) p 0 ≡ 9
  unfolding tested
  nine e d = here ∙ rw (eq-eqb (get_or ns p 0) 0 e, d)

  pub stays : get_or ns p 0 ≡ 0 → unordered p ≡ false → get_or (all_tested unordered 0 ns) p 0 ≡ 0
  unfolding tested
  stays e d = here ∙ rw (eq-eqb (get_or ns p 0) 0 e, d) e

  zero_by : (n : ℕ) (s t : Bool) → eqb n 0 ≡ s → cond (s && t) 9 n ≡ 0 → (n ≡ 0) × (t ≡ false)
  zero_by n true true q e = let z : ⊥ = omega arith in absurd z
  zero_by n true false q e = (eqb-true n 0 q, refl)
  zero_by n false t q e = absurd (eqb-false n 0 q e)

  -- who is left with 0 came in with 0 and is not unordered
  pub zero_sound : get_or (all_tested unordered 0 ns) p 0 ≡ 0 → (get_or ns p 0 ≡ 0) × (unordered p ≡ false)
  unfolding tested
  zero_sound e = zero_by (get_or ns p 0) (eqb (get_or ns p 0) 0) (unordered p) refl (sym here ∙ e)
