-- The answer of a call that writes a text into a lent buffer, and what the buffer holds. Written from document 01, "UTC text" and "Refusals by number".
-- Assumes nothing.
use Rattle.std.specs.Prelude.{ℕ, ◌≡◌, List, ◌++◌, cond, length, drop, leb, Result}
use Rattle.refusals.specs.declared.Refusal.{Refusal}
use Rattle.refusals.specs.Outcome.{Outcome, answer, refusal, outcome}

-- the outcome of asking for the text t in a buffer of n bytes: its length, or 11 exactly where the text is longer than the buffer
unfoldable pub text_written : List ℕ → ℕ → Outcome ℕ
text_written t n = cond (leb (length t) n) (answer (length t)) (refusal 11)

-- what the buffer l then holds: t at its start and the rest as it was, or, where t does not fit, l
unfoldable pub buffer_after : List ℕ → List ℕ → List ℕ
buffer_after t l = cond (leb (length t) (length l)) (t ++ drop (length t) l) l

-- r answers the text t, and the buffer, which held `before`, holds `after`
pub record TextPut (t before : List ℕ) (r : Result ℕ Refusal) (after : List ℕ) : Type 0 where
  pub says : outcome r ≡ text_written t (length before)
  pub holds : after ≡ buffer_after t before
