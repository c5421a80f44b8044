-- A text and its rule for two buffers. Written from document 02, item 5 (the text calls pass on the rule), and document 01,
-- "Refusals by number" (11 is judged last). Assumes nothing.
use Rattle.std.specs.Prelude.{ℕ, zero, suc, ◌≡◌, List, [], length, ℤ}
use Rattle.refusals.specs.Outcome.{Outcome, answer, refusal, onward}
use Rattle.leap_table.specs.declared.offsets.Rule.{Rule}
use Rattle.c_answers.specs.rules.RuleFields.{rule_bytes}
use Rattle.c_answers.specs.TwoBuffers.{DeliveredTwo}

-- what goes into a second buffer of so many bytes: a buffer of none asks for no rule
unfoldable pub asked_rule : ℕ → Rule → List ℕ
asked_rule zero rule = []
asked_rule (suc room) rule = rule_bytes rule

-- the text, and the 8 bytes of its rule where it is asked for
unfoldable pub ruled : ℕ → Outcome (List ℕ × Rule) → Outcome (List ℕ × List ℕ)
ruled room o = onward o (λ t. answer (t.0, asked_rule room t.1))

-- where the second buffer has bytes, but too few: 11 unless the text is refused
unfoldable pub no_room : Outcome (List ℕ × Rule) → Outcome ℕ
no_room o = onward o (λ t. refusal 11)

-- delivered beside any second buffer of so many bytes, which stays as it was
abbrev pub DeliveredBeside : ℕ → Outcome (List ℕ × Rule) → List ℕ → ℤ → List ℕ → Type 0
DeliveredBeside room o before r after = (second : List ℕ) → length second ≡ room → DeliveredTwo (ruled room o) before second r after second
