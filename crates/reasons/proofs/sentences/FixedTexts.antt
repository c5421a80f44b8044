-- The fixed texts: which numbers have none, and how long they are. Assumes nothing.
use Prim.Native.Nat.{ℕ, zero, suc, ◌<◌, ◌≤◌}
use native.Mathlib.Omega.{arith}
use mathlib.Core.Path.{◌≡◌, refl}
use mathlib.Core.Bool.{Bool, true, false, ◌&&◌, and-eq-true_iff}
use mathlib.Core.List.{List, [], ◌∷◌}
use lib.ListN.{length, get_or, get_or-eq_default}
use lib.Dec.{leb, ltb}
use borrow.Author.Tests.{leb-true, ltb-true, ltb-false}
use Rattle.reasons.specs.sentences.Texts.{texts, fixed_text}
use Rattle.reasons.proofs.sentences.Each.{EachBelow, from_each}

-- ---- a number that is not 1 to 28 has no text
pub past-28 : (n : ℕ) → 28 < n → fixed_text n ≡ []
unfolding fixed_text texts
past-28 n h = get_or-eq_default texts [] h

pub text-none : (n : ℕ) → EachBelow (λ k. n ≡ suc k → ⊥) 28 → fixed_text n ≡ []
unfolding fixed_text texts
text-none zero h = refl
text-none (suc k) h = either (ltb k 28) refl
  where
    either : (b : Bool) → ltb k 28 ≡ b → fixed_text (suc k) ≡ []
    either true e = absurd (from_each (λ j. suc k ≡ suc j → ⊥) 28 h k (ltb-true k 28 e) refl)
    either false e = past-28 (suc k) (omega (arith, ltb-false k 28 e))

-- ---- no text has more than 50 bytes
all_within : ℕ → List (List ℕ) → Bool
all_within n [] = true
all_within n (t ∷ ts) = leb (length t) n && all_within n ts

each_within : (n : ℕ) (ts : List (List ℕ)) (k : ℕ) → all_within n ts ≡ true → length (get_or ts k []) ≤ n
unfolding all_within
each_within n [] k e = omega arith
each_within n (t ∷ ts) zero e = leb-true (length t) n ((and-eq-true_iff (leb (length t) n) (all_within n ts)).0 e).0
each_within n (t ∷ ts) (suc k) e = each_within n ts k ((and-eq-true_iff (leb (length t) n) (all_within n ts)).0 e).1

pub text-short : (k : ℕ) → length (fixed_text k) ≤ 50
unfolding fixed_text texts all_within
text-short k = each_within 50 texts k refl
