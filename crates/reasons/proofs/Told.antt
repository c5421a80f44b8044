-- The sentence of a call, by what the call before it answered. Assumes nothing.
use Prim.Native.Nat.{ℕ}
use mathlib.Core.Path.{◌≡◌, sym, ap, ◌∙◌}
use Rattle.std.specs.Prelude.{Result, Ok, Err}
use Rattle.refusals.specs.declared.Refusal.{Refusal}
use Rattle.refusals.specs.Refusal.{refusal_number}
use Rattle.refusals.specs.Outcome.{Outcome, answer, refusal, onward, outcome}
use Rattle.reasons.specs.declared.Values.{Values}
use Rattle.reasons.specs.declared.sentences.Reason.{Reason}
use Rattle.reasons.specs.sentences.Render.{render}
use Rattle.reasons.specs.Sentence.{reason_of, sentence}

module _ (k : ℕ) (v : Values) (r : Result Reason Refusal) (e : outcome r ≡ reason_of k v) where
  pub told-refused : (n : Refusal) → r ≡ Err n → sentence k v ≡ refusal (refusal_number n)
  unfolding sentence onward outcome
  told-refused n is = ap (λ (o : Outcome Reason). onward o (λ (x : Reason). answer (render x))) (sym e ∙ ap outcome is)

  pub told-given : (x : Reason) → r ≡ Ok x → sentence k v ≡ answer (render x)
  unfolding sentence onward outcome
  told-given x is = ap (λ (o : Outcome Reason). onward o (λ (x : Reason). answer (render x))) (sym e ∙ ap outcome is)
