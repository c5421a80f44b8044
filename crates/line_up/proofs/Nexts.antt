-- The loop that looks for the next accepted place. Assumes nothing.
use Prim.Native.Nat.{ℕ, suc, ◌+◌, ◌<◌, ◌≤◌}
use native.Mathlib.Numerals.{add-one}
use mathlib.Core.Path.{◌≡◌, sym, ap, ◌∙◌}
use mathlib.Core.List.{List, ◌∷◌}
use lib.ListN.{length, get_or}
use borrow.Author.Tests.{eq-eqb, ne_eqb}
use Rattle.line_up.specs.Runs.{accepted_in, first_or}
use Rattle.line_up.proofs.Cursors.{accepted_in-none, accepted_in-cons}

-- no place from `from` up to i is accepted
pub record Looking (ms : List ℕ) (from to i : ℕ) : Type 0 where
  pub same : accepted_in ms i to ≡ accepted_in ms from to

module _ (ms : List ℕ) (from to i : ℕ) (tn : to ≤ length ms) (l : Looking ms from to i) where
  pub next-found : i < to → get_or ms i 0 ≡ 0 → i ≡ first_or (length ms) (accepted_in ms from to)
  next-found h e =
      let k : accepted_in ms i to ≡ i ∷ accepted_in ms (suc i) to = accepted_in-cons ms to tn i h ∙ rw (eq-eqb (get_or ms i 0) 0 e) in
      ap (first_or (length ms)) (sym k ∙ l.same)

  pub next-goes : i < to → (get_or ms i 0 ≡ 0 → ⊥) → Looking ms from to (i + 1)
  next-goes h e =
      let k : accepted_in ms i to ≡ accepted_in ms (suc i) to = accepted_in-cons ms to tn i h ∙ rw (ne_eqb (get_or ms i 0) 0 e) in
      record { same = ap (λ (j : ℕ). accepted_in ms j to) (add-one i) ∙ sym k ∙ l.same }

  pub next-ends : to ≤ i → length ms ≡ first_or (length ms) (accepted_in ms from to)
  next-ends h = ap (first_or (length ms)) (sym (accepted_in-none ms to tn i h) ∙ l.same)
