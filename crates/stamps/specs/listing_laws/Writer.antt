-- A block written from a list of stamps: its layout as a writer has it, apart from what reads it (document 01, "Stamp block"). And the listing of such a list:
-- its count and its header are written here again, from document 01's "The program that lists a block", and a line is that of a block's. Assumes nothing.
use Rattle.std.specs.Prelude.{ℕ, suc, ◌+◌, ◌<◌, List, [], ◌∷◌, ◌++◌, length}
use Rattle.std.specs.Float.Ieee.{of_bits}
use Rattle.std.specs.Float.{binary64}
use Rattle.refusals.specs.Outcome.{Outcome, answer, refusal}
use Rattle.numerals.specs.little_endian.LittleEndian.{four_bytes, eight_bytes}
use Rattle.numerals.specs.little_endian.Written.{all_bytes}
use Rattle.numerals.specs.digits.Decimal.{digits_of}
use Rattle.julian.specs.declared.JulianDate.{JulianDate}
use Rattle.julian.specs.JulianDate.{julian}
use Rattle.leap_table.specs.rows.Table.{Row}
use Rattle.utc.specs.text.Ascii.{ascii_bytes}
use Rattle.utc.specs.iso_texts.Expanded.{iso_text_expanded}
use Rattle.stamps.specs.declared.Reporting.{Reporting}
use Rattle.stamps.specs.Listing.{numeral, shown}

-- a stamp: the patterns of its two parts, 64 bits each
pub record Stamp : Type 0 where
  pub first : ℕ
  pub second : ℕ

pub record StampFits (x : Stamp) : Type 0 where
  pub first_fits : x.first < 18446744073709551616
  pub second_fits : x.second < 18446744073709551616

abbrev pub stamp_date : Stamp → JulianDate
stamp_date x = julian (of_bits binary64 x.first) (of_bits binary64 x.second)

-- how many stamps there are, twice, in four bytes; then all first parts, then all second parts, in eight bytes each
abbrev pub first_bytes : Stamp → List ℕ
first_bytes x = eight_bytes x.first

abbrev pub second_bytes : Stamp → List ℕ
second_bytes x = eight_bytes x.second

unfoldable pub block_bytes : List Stamp → List ℕ
block_bytes xs = all_bytes four_bytes (length xs ∷ length xs ∷ []) ++ (all_bytes first_bytes xs ++ all_bytes second_bytes xs)

-- a stamp counts where its text is refused, by whatever number
unfoldable pub without_text : Outcome (List ℕ) → ℕ
without_text (answer text) = 0
without_text (refusal k) = 1

-- how many of the stamps have no text
unfoldable pub refused_stamps : List Row → List Stamp → ℕ
refused_stamps rows [] = 0
refused_stamps rows (x ∷ xs) = without_text (iso_text_expanded rows (stamp_date x)) + refused_stamps rows xs

-- the header of so many stamps of which so many have no text, with all digits of both
unfoldable pub header_text : ℕ → ℕ → List ℕ
header_text stamps refused = ascii_bytes "utc listing " ++ (digits_of stamps ++ (ascii_bytes " refused " ++ (digits_of refused ++ (10 ∷ []))))

-- the line of a stamp at place i, and the lines of all from place i on
abbrev pub line_of_stamp : Reporting → List Row → ℕ → Stamp → List ℕ
line_of_stamp how rows i x = ((numeral i ++ (32 ∷ [])) ++ shown how (stamp_date x) (iso_text_expanded rows (stamp_date x))) ++ (10 ∷ [])

unfoldable pub lines_of_stamps : Reporting → List Row → ℕ → List Stamp → List ℕ
lines_of_stamps how rows i [] = []
lines_of_stamps how rows i (x ∷ xs) = line_of_stamp how rows i x ++ lines_of_stamps how rows (suc i) xs

-- the listing of a list of stamps
unfoldable pub listing_of_stamps : Reporting → List Row → List Stamp → List ℕ
listing_of_stamps how rows xs = header_text (length xs) (refused_stamps rows xs) ++ lines_of_stamps how rows 0 xs
