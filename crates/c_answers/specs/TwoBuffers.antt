-- An answer in two lent buffers. Written from document 02, item 5 (the text calls pass on a rule beside the text), and document 01, "Refusals by number": a
-- refusal writes nothing, 11 is judged last. Assumes nothing.
use Rattle.std.specs.Prelude.{ℕ, ◌≡◌, List, cond, ◌&&◌, leb, length, ℤ}
use Rattle.refusals.specs.Outcome.{Outcome, answer, refusal, onward}
use Rattle.utc.specs.iso_texts.TextCall.{buffer_holds}
use Rattle.c_answers.specs.Delivery.{code}

-- into buffers of m and n bytes: 11 where one of the two does not fit
unfoldable pub both_fit : Outcome (List ℕ × List ℕ) → ℕ → ℕ → Outcome (List ℕ × List ℕ)
both_fit o m n = onward o (λ p. cond (leb (length p.0) m && leb (length p.1) n) (answer p) (refusal 11))

-- The call returned r, the number of bytes in the first buffer; the buffers, which held `before` and `before-second`, hold `after` and `after_second`: on a
-- refusal both as they were.
pub record DeliveredTwo (o : Outcome (List ℕ × List ℕ)) (before before-second : List ℕ) (r : ℤ) (after after_second : List ℕ) : Type 0 where
  pub returned : r ≡ code (onward (both_fit o (length before) (length before-second)) (λ p. answer (length p.0)))
  pub holds : after ≡ buffer_holds (onward (both_fit o (length before) (length before-second)) (λ p. answer p.0)) before
  pub holds_second : after_second ≡ buffer_holds (onward (both_fit o (length before) (length before-second)) (λ p. answer p.1)) before-second
