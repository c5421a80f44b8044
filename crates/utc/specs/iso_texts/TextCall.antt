-- The answer of a text call that may refuse, and what the lent buffer then holds. Written from document 01, "UTC text" and "Refusals by number": "A refusal
-- carries nothing else and writes nothing". Assumes nothing.
use Rattle.std.specs.Prelude.{ℕ, ◌≡◌, List, length, take, drop, Result, Ok, Err}
use Rattle.refusals.specs.declared.Refusal.{Refusal}
use Rattle.refusals.specs.Outcome.{Outcome, answer, refusal, onward, outcome}
use Rattle.utc.specs.text.Answer.{text_written, buffer_after}

-- the text, or a refusal, into a buffer of n bytes: 11 only where there is a text
unfoldable pub written : Outcome (List ℕ) → ℕ → Outcome ℕ
written text n = onward text (λ t. text_written t n)

-- the buffer l is as it was where the text is refused
unfoldable pub buffer_holds : Outcome (List ℕ) → List ℕ → List ℕ
buffer_holds (answer t) l = buffer_after t l
buffer_holds (refusal n) l = l

-- r answers the text, and the buffer, which held `before`, holds `after`
pub record TextCall (text : Outcome (List ℕ)) (before : List ℕ) (r : Result ℕ Refusal) (after : List ℕ) : Type 0 where
  pub says : outcome r ≡ written text (length before)
  pub holds : after ≡ buffer_holds text before

-- two calls have one answer, the same bytes written, and each the rest of its own buffer; where they are refused, each the whole of it
pub record Alike (l : List ℕ) (r : Result ℕ Refusal) (out : List ℕ) (l' : List ℕ) (r' : Result ℕ Refusal) (out' : List ℕ) : Type 0 where
  pub answers : r ≡ r'
  pub bytes : (n : ℕ) → r ≡ Ok n → take n out ≡ take n out'
  pub rest : (n : ℕ) → r ≡ Ok n → (drop n out ≡ drop n l) × (drop n out' ≡ drop n l')
  pub refused : (k : Refusal) → r ≡ Err k → (out ≡ l) × (out' ≡ l')
