-- THE LINE OF A REFUSED TEXT tells its own number, for every text that is refused and every table of rows. Assumes nothing.
use mathlib.Core.Path.{◌≡◌, refl, ap, ◌∙◌}
use mathlib.Core.List.{List, [], ◌∷◌, ◌++◌, append_assoc}
use Prim.Native.Nat.{ℕ}
use Rattle.refusals.specs.Outcome.{Outcome, refusal, onward}
use Rattle.numerals.specs.digits.Decimal.{digits_in, digits_of}
use Rattle.leap_table.specs.rows.Table.{Row}
use Rattle.utc.specs.iso_texts.Expanded.{iso_text_expanded}
use Rattle.utc.specs.text.Ascii.{ascii_bytes}
use Rattle.parsing.specs.declared.ParsedUtc.{ParsedUtc}
use Rattle.parsing.specs.Parsed.{parsed_utc}
use Rattle.parsing_laws.proofs.Ladder.{ReaderNumber, fifteen, sixteen, two, three, four}
use Rattle.parsing_laws.proofs.UtcLadder.{utc-only-numbers}
use Rattle.readings.specs.Reading.{reading, reading_words, reading_line}
use Rattle.readings.specs.RefusedLine.{refused_as, RefusedLine, by_form, by_digits, by_month, by_day, by_time}

-- the five words, byte by byte
pub line-of-15 : reading_words (refusal 15) ≡ ascii_bytes "refused 15"
unfolding reading_words digits_of digits_in
line-of-15 = refl

pub line-of-16 : reading_words (refusal 16) ≡ ascii_bytes "refused 16"
unfolding reading_words digits_of digits_in
line-of-16 = refl

pub line-of-2 : reading_words (refusal 2) ≡ ascii_bytes "refused 2"
unfolding reading_words digits_of digits_in
line-of-2 = refl

pub line-of-3 : reading_words (refusal 3) ≡ ascii_bytes "refused 3"
unfolding reading_words digits_of digits_in
line-of-3 = refl

pub line-of-4 : reading_words (refusal 4) ≡ ascii_bytes "refused 4"
unfolding reading_words digits_of digits_in
line-of-4 = refl

module _ (rows : List Row) (s : List ℕ) (index : ℕ) where
  line-of-refused : (k : ℕ) → parsed_utc rows s ≡ refusal k → reading_words (reading rows s) ≡ reading_words (refusal k)
  unfolding reading onward
  line-of-refused k e = ap (λ (o : Outcome ParsedUtc). reading_words (onward o (λ r. iso_text_expanded rows r.date.0))) e

  as_line : (words : List ℕ) → reading_words (reading rows s) ≡ words → reading_line rows s index ≡ refused_as index (32 ∷ words)
  unfolding reading_line
  as_line words e = ap (λ (l : List ℕ). ((digits_of index ++ (32 ∷ [])) ++ l) ++ (10 ∷ [])) e ∙ simp append_assoc

  pub refused-line : (k : ℕ) → parsed_utc rows s ≡ refusal k → RefusedLine index (reading_line rows s index) k
  refused-line k e = go (utc-only-numbers rows s k e) e
    where
      go : {k : ℕ} → ReaderNumber k → parsed_utc rows s ≡ refusal k → RefusedLine index (reading_line rows s index) k
      go fifteen e = by_form (as_line (ascii_bytes "refused 15") (line-of-refused 15 e ∙ line-of-15))
      go sixteen e = by_digits (as_line (ascii_bytes "refused 16") (line-of-refused 16 e ∙ line-of-16))
      go two e = by_month (as_line (ascii_bytes "refused 2") (line-of-refused 2 e ∙ line-of-2))
      go three e = by_day (as_line (ascii_bytes "refused 3") (line-of-refused 3 e ∙ line-of-3))
      go four e = by_time (as_line (ascii_bytes "refused 4") (line-of-refused 4 e ∙ line-of-4))
