-- The sentence of a refusal's number with the values of its test. Written from document 02, item 13 ("the sentence call takes its number (one not 1 to 28 is
-- 18) and the values 01's test reads"). Assumes nothing.
use Rattle.std.specs.Prelude.{ℕ, cond, ◌&&◌, List, leb}
use Rattle.refusals.specs.Outcome.{Outcome, answer, refusal, onward}
use Rattle.reasons.specs.declared.sentences.Reason.{Reason}
use Rattle.reasons.specs.sentences.Render.{render}
use Rattle.reasons.specs.declared.Values.{Values}
use Rattle.reasons.specs.Offending.{offending}

-- the reason of a number, 1 to 28, by the values of its test; 18 for any other number
unfoldable pub reason_of : ℕ → Values → Outcome Reason
reason_of k values = cond (leb 1 k && leb k 28) (answer (record { number = k; named = offending k values })) (refusal 18)

-- the sentence, or 18
unfoldable pub sentence : ℕ → Values → Outcome (List ℕ)
sentence k values = onward (reason_of k values) (λ r. answer (render r))
