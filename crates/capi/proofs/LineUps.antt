-- A lining up is delivered. Assumes nothing.
use Prim.Native.Nat.{ℕ, ◌<◌, ◌^◌}
use mathlib.Core.Path.{◌≡◌, sym, ap, ◌∙◌}
use mathlib.Core.List.{List}
use lib.IntN.{ℤ}
use lib.Signed.{mag}
use mir.Syntax.{w64}
use mir.Val.{to_z, of_z}
use mir.Facts.{to_z_pos}
use Rattle.std.specs.Prelude.{Result, Ok, Err}
use Rattle.refusals.specs.declared.Refusal.{Refusal}
use Rattle.refusals.specs.Refusal.{refusal_number}
use Rattle.refusals.specs.Outcome.{refusal, outcome}
use Rattle.line_up.specs.LineUp.{LinedUp, result}
use Rattle.c_answers.specs.Delivery.{code}
use Rattle.c_answers.proofs.Deliveries.{code-back}
use Rattle.capi.specs.LineDelivery.{LineDelivered}

module _ (l : LinedUp) (numbers out : List ℕ) (res : Result ℕ Refusal) (e : result res numbers out ≡ l) where
  says : outcome res ≡ l.answer
  says = ap (λ (x : LinedUp). x.answer) e

  delivered : (r : ℤ) → r ≡ code (outcome res) → LineDelivered l r numbers out
  delivered r h = record {
    returned = h ∙ ap code says;
    numbered = ap (λ (x : LinedUp). x.numbers) e;
    placed = ap (λ (x : LinedUp). x.out) e;
  }

  pub line-ordered : (n : ℕ) → res ≡ Ok n → n < 2 ^ 63 → LineDelivered l (to_z w64 n) numbers out
  unfolding outcome code
  line-ordered n i h = delivered (to_z w64 n) (to_z_pos w64 {n = n} h ∙ sym (ap (λ (x : Result ℕ Refusal). code (outcome x)) i))

  pub line_refused : {r : ℤ} (k : Refusal) → mag r < 2 ^ 63 → res ≡ Err k → r ≡ code (refusal (refusal_number k)) → LineDelivered l (to_z w64 (of_z w64 r))
      numbers out
  unfolding outcome
  line_refused {r} k ok i h = delivered (to_z w64 (of_z w64 r)) (code-back ok ∙ h ∙ sym (ap (λ (x : Result ℕ Refusal). code (outcome x)) i))
