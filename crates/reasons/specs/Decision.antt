-- When a number has a sentence, and which: the two cases shut each other out. Written from document 02, item 13 ("the sentence call takes its number (one not 1
-- to 28 is 18)"). Assumes nothing.
use Rattle.std.specs.Prelude.{ℕ, ◌≤◌, ◌≡◌, ◌++◌, ◌⊎◌}
use Rattle.std.specs.Float.{nan}
use Rattle.refusals.specs.Outcome.{answer, refusal}
use Rattle.reasons.specs.declared.Values.{Values}
use Rattle.numerals.specs.digits.Hexadecimal.{hex16}
use Rattle.reasons.specs.sentences.Texts.{ascii_bytes, fixed_text}
use Rattle.reasons.specs.sentences.Render.{float_digits, named_text}
use Rattle.reasons.specs.Offending.{offending}
use Rattle.reasons.specs.Sentence.{sentence}

pub data SentenceDecision (k : ℕ) (v : Values) : Type 0 where
  told : 1 ≤ k → k ≤ 28 → sentence k v ≡ answer (fixed_text k ++ named_text (offending k v)) → SentenceDecision k v
  no_sentence : (k ≡ 0) ⊎ (29 ≤ k) → sentence k v ≡ refusal 18 → SentenceDecision k v

-- floats are shown as the 16 hexadecimal digits of their bits, any NaN as one pattern
abbrev pub SixteenDigits : Type 0
SixteenDigits = (float_digits nan ≡ ascii_bytes "7ff8000000000000") × (hex16 0x0123_4567_89ab_cdef ≡ ascii_bytes "0123456789abcdef")
