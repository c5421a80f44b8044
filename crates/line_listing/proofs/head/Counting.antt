-- The count of one stamp more. Assumes nothing.
use Rattle.std.proofs.Common.{◌≡◌, ℕ, ◌+◌, cond, eqb, List, sym, refl, ap, ◌∙◌, add-one, arith, eq-eqb, ne_eqb}
use Rattle.line_listing.specs.head.Counts.{kind_at, kinds_in}

pub counted_none : (js ks ns : List ℕ) (kind from : ℕ) → 0 ≡ kinds_in js ks ns kind from 0
unfolding kinds_in
counted_none js ks ns kind from = refl

module _ (js ks ns : List ℕ) (kind from i : ℕ) where
  pub counted-more : (c k r : ℕ) → c ≡ kinds_in js ks ns kind from i → k ≡ kind_at js ks ns (from + i) → r ≡ cond (eqb k kind) 1 0
      → c + r ≡ kinds_in js ks ns kind from (i + 1)
  unfolding kinds_in
  counted-more c k r e f g =
      ap (λ (n : ℕ). n + r) e ∙ ap (λ (n : ℕ). kinds_in js ks ns kind from i + n) (g ∙ ap (λ (n : ℕ). cond (eqb n kind) 1 0) f)
      ∙ ap (kinds_in js ks ns kind from) (sym (add-one i))

  pub counted-one : (c k : ℕ) → c ≡ kinds_in js ks ns kind from i → k ≡ kind_at js ks ns (from + i) → k ≡ kind → c + 1 ≡ kinds_in js ks ns kind from (i + 1)
  counted-one c k e f h = counted-more c k 1 e f (sym (rw (eq-eqb k kind h)))

  pub counted-other : (c k : ℕ) → c ≡ kinds_in js ks ns kind from i → k ≡ kind_at js ks ns (from + i) → (k ≡ kind → ⊥)
      → c ≡ kinds_in js ks ns kind from (i + 1)
  counted-other c k e f h = omega (arith, counted-more c k 0 e f (sym (rw (ne_eqb k kind h))))
