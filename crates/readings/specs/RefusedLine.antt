-- The line of a text that is refused, byte by byte, for each number that the reader has: 15 its form, 16 its digits, 2 the month, 3 the day, 4 the time.
-- Written from document 02, item 1, and document 01's listing. Assumes nothing.
use Rattle.std.specs.Prelude.{ℕ, ◌≡◌, List, [], ◌∷◌, ◌++◌}
use Rattle.numerals.specs.digits.Decimal.{digits_of}
use Rattle.utc.specs.text.Ascii.{ascii_bytes}

-- the index, the words, and the line's end
abbrev pub refused_as : ℕ → List ℕ → List ℕ
refused_as index words = digits_of index ++ (words ++ (10 ∷ []))

pub data RefusedLine (index : ℕ) (line : List ℕ) : ℕ → Type 0 where
  by_form : line ≡ refused_as index (ascii_bytes " refused 15") → RefusedLine index line 15
  by_digits : line ≡ refused_as index (ascii_bytes " refused 16") → RefusedLine index line 16
  by_month : line ≡ refused_as index (ascii_bytes " refused 2") → RefusedLine index line 2
  by_day : line ≡ refused_as index (ascii_bytes " refused 3") → RefusedLine index line 3
  by_time : line ≡ refused_as index (ascii_bytes " refused 4") → RefusedLine index line 4
