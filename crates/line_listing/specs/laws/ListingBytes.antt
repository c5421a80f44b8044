-- The listing's bytes by the places of its lines: the head, a line for each place in their order, and the last line. Written from the head of
-- programs/line_up.c: "each stamp of each run has one line: its recorder, its index in its run, counted from 0, and what is told of it". Assumes nothing.
use Rattle.std.specs.Prelude.{◌≡◌, ℕ, ◌+◌, ◌<◌, Bool, List, [], ◌∷◌, ◌++◌, length, ◌==◌}
use Rattle.refusals.specs.Outcome.{answer}
use Rattle.numerals.specs.digits.Decimal.{digits_of}
use Rattle.utc.specs.text.Ascii.{ascii_bytes}
use Rattle.leap_table.specs.rows.Table.{Row}
use Rattle.line_listing.specs.lines.StampLine.{Stamps, date_of_place, number_of_place, stamp_told, place_line, no_text_count}
use Rattle.line_listing.specs.listing.Listing.{NamedRun, line_listing, run_end_of}
use Rattle.line_listing.specs.laws.Places.{only}
use Rattle.line_listing.specs.laws.HeadTold.{head_told}

-- the lines of places, one behind the other
unfoldable pub lines_at : (ℕ → List ℕ) → List ℕ → List ℕ
lines_at line [] = []
lines_at line (p ∷ ps) = line p ++ lines_at line ps

-- the line of stamp i of a recorder's run, of which so much is told
abbrev pub recorder_line : List ℕ → ℕ → List ℕ → List ℕ
recorder_line name i told = name ++ (digits_of i ++ (ascii_bytes " " ++ (told ++ ascii_bytes "\n")))

-- what is told of the stamp at a place
abbrev pub told_at : Bool → List Row → Stamps → ℕ → List ℕ
told_at s rows all p = stamp_told s rows (date_of_place all p) (number_of_place all p)

-- each line has its recorder, its index in its own run, and what is told of the stamp at its own place
pub record LinesTold (s : Bool) (rows : List Row) (all : Stamps) : Type 0 where
  pub gps_line : (i : ℕ) → i < all.first → place_line s rows all i ≡ recorder_line (ascii_bytes "gps ") i (told_at s rows all i)
  pub tai_line : (i : ℕ) → i < all.second → place_line s rows all (all.first + i) ≡ recorder_line (ascii_bytes "tai ") i (told_at s rows all (all.first + i))
  pub utc_line : (i : ℕ)
      → place_line s rows all (all.first + (all.second + i)) ≡ recorder_line (ascii_bytes "utc ") i (told_at s rows all (all.first + (all.second + i)))

-- the stamp at a place is ordered and has no text
abbrev pub is_without_text : List Row → Stamps → ℕ → Bool
is_without_text rows all p = no_text_count rows (date_of_place all p) (number_of_place all p) == 1

-- the last line
abbrev pub end_told : ℕ → ℕ → List ℕ
end_told ordered textless = ascii_bytes "lined up " ++ (digits_of ordered ++ (ascii_bytes " without text " ++ (digits_of textless ++ ascii_bytes "\n")))

-- the listing of the stamps `all`, of which those at the places `line` are ordered and `lines` are the places of the lines, in their order
abbrev pub ListingBytes : Bool → List Row → NamedRun → NamedRun → NamedRun → Stamps → List ℕ → List ℕ → Type 0
ListingBytes s rows gps tai utc all line lines =
    line_listing s rows gps tai utc ≡ answer (head_told (run_end_of gps) (run_end_of tai) (run_end_of utc) all lines
    ++ (lines_at (place_line s rows all) lines ++ end_told (length line) (length (only (is_without_text rows all) lines))))
