-- The line by which the program utc_reading answers a text: its index, a blank, and the text of the date that it is read as, or `refused` and the number.
-- Written from document 02, item 1 ("The boxes at the line send text"), in the form of document 01's listing; the text has expanded years, as the listing's
-- from item 6 on. Assumes nothing.
use Rattle.std.specs.Prelude.{ℕ, ◌≡◌, List, [], ◌∷◌, ◌++◌, cond, length, drop, leb, Result}
use Rattle.refusals.specs.declared.Refusal.{Refusal}
use Rattle.refusals.specs.Outcome.{Outcome, answer, refusal, onward, outcome}
use Rattle.numerals.specs.digits.Decimal.{digits_of}
use Rattle.leap_table.specs.rows.Table.{Row}
use Rattle.utc.specs.iso_texts.Expanded.{iso_text_expanded}
use Rattle.parsing.specs.Parsed.{parsed_utc}
use Rattle.stamps.specs.Listing.{refused_word}

-- the text of the date that the text s is read as
unfoldable pub reading : List Row → List ℕ → Outcome (List ℕ)
reading rows s = onward (parsed_utc rows s) (λ r. iso_text_expanded rows r.date.0)

-- a text, or `refused` and the number
unfoldable pub reading_words : Outcome (List ℕ) → List ℕ
reading_words (answer t) = t
reading_words (refusal k) = refused_word ++ digits_of k

-- the line of the text s with this index; 32 is the blank, 10 the line's end
unfoldable pub reading_line : List Row → List ℕ → ℕ → List ℕ
reading_line rows s index = ((digits_of index ++ (32 ∷ [])) ++ reading_words (reading rows s)) ++ (10 ∷ [])

-- r answers the line's length, and the buffer, which held `before`, holds the line at its start and then what stood there; in a buffer of less than 50 bytes,
-- which the longest line may need, r is 11 and the buffer is as it was
pub record LineCall (line before : List ℕ) (r : Result ℕ Refusal) (after : List ℕ) : Type 0 where
  pub says : outcome r ≡ cond (leb 50 (length before)) (answer (length line)) (refusal 11)
  pub holds : after ≡ cond (leb 50 (length before)) (line ++ drop (length line) before) before
