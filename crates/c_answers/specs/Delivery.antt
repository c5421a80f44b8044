-- How an answer reaches a C caller: as a code, and as bytes at the start of a lent buffer. Written from document 01, "Stamp block" (numbers and byte slices
-- only) and "Refusals by number" (a refusal writes nothing), and docs/DECISIONS.md 24. Assumes nothing.
use Rattle.std.specs.Prelude.{ℕ, ◌≡◌, List, Bool, cond, length, ℤ, pos, neg_ℤ}
use Rattle.refusals.specs.Outcome.{Outcome, answer, refusal, onward}
use Rattle.utc.specs.iso_texts.TextCall.{written, buffer_holds}

-- zero or more is the answer, below zero minus the refusal's number
unfoldable pub code : Outcome ℕ → ℤ
code (answer n) = pos n
code (refusal k) = neg_ℤ (pos k)

-- 0 where nothing is refused
unfoldable pub done : Outcome Unit → Outcome ℕ
done o = onward o (λ _. answer 0)

-- 1 for yes, 0 for no
abbrev pub truth : Bool → ℤ
truth b = cond b (pos 1) (pos 0)

-- an answer by its bytes
unfoldable pub in_bytes : {A : Type 0} → (A → List ℕ) → Outcome A → Outcome (List ℕ)
in_bytes bytes o = onward o (λ a. answer (bytes a))

-- The call returned r, and the buffer, which held `before`, holds `after`. `written` is the number of bytes of the answer, 11 where they are more than the
-- buffer's, and the answer's own refusal before that; `buffer_holds` is the bytes at the start and the rest as it was, and on a refusal the buffer as it was.
pub record Delivered (o : Outcome (List ℕ)) (before : List ℕ) (r : ℤ) (after : List ℕ) : Type 0 where
  pub returned : r ≡ code (written o (length before))
  pub holds : after ≡ buffer_holds o before
