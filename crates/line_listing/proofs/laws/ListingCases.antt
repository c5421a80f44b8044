-- Worked by computation: parts of the listing of two stamps that are refused, by whatever rows. Assumes nothing.
use Rattle.std.proofs.Common.{◌≡◌, ℕ, true, false, List, [], ◌∷◌, refl}
use Rattle.numerals.specs.digits.Decimal.{digits_in, digits_of}
use Rattle.numerals.specs.little_endian.LittleEndian.{four_at, u32_at, u64_at}
use Rattle.leap_table.specs.rows.Table.{Row}
use Rattle.utc.specs.text.Ascii.{ascii_bytes}
use Rattle.line_listing.specs.head.Counts.{not_finite, kind_at, kinds_in}
use Rattle.line_listing.specs.head.Head.{counted, end_text}
use Rattle.line_listing.specs.lines.StampLine.{Stamps, stamps, recorder, index_in, sentence_behind, number_told, refused, stamp_told, line_by, place_line}
use Rattle.line_listing.specs.lines.StampLine.{no_text_count}
use Rattle.line_listing.specs.lines.Parts.{longest_line, lines_of_order, listed_lines, textless_from, listed_count, listed_part, places_there, absent_refusal}
use Rattle.line_listing.specs.listing.Part.{step, lines_step, end_step, listing_refusal}

-- a stamp in GPS and one in TAI, the second before the first
abbrev two : Stamps
two = stamps [] [] (9 ∷ 17 ∷ []) 1 1

abbrev places : List ℕ
places = 1 ∷ 0 ∷ 0 ∷ 0 ∷ 0 ∷ 0 ∷ 0 ∷ 0 ∷ []

-- both lines, and the cursor behind them with the count that came in; the second alone
pub both_lines : (rows : List Row) → lines_step false rows two places 1 7 600 ≡ step (ascii_bytes "tai 0 refused 17\ngps 0 refused 9\n") 3 7
unfolding lines_step listed_part listed_count lines_of_order longest_line listed_lines textless_from place_line no_text_count line_by recorder index_in
    stamp_told refused
    number_told sentence_behind digits_of digits_in u32_at four_at
both_lines rows = refl

pub second-line : (rows : List Row) → lines_step false rows two places 2 7 600 ≡ step (ascii_bytes "gps 0 refused 9\n") 3 7
unfolding lines_step listed_part listed_count lines_of_order longest_line listed_lines textless_from place_line no_text_count line_by recorder index_in
    stamp_told refused
    number_told sentence_behind digits_of digits_in u32_at four_at
second-line rows = refl

-- of four stamps two are ordered
pub last-part : end_step (stamps [] [] (0 ∷ 9 ∷ 17 ∷ 0 ∷ []) 4 0) 5 1 ≡ step (ascii_bytes "lined up 2 without text 1\n") 6 1
unfolding end_step end_text counted kinds_in kind_at not_finite u64_at four_at digits_of digits_in
last-part = refl

-- the refusals in their order: a place that is not there, then the room
pub listing-refusals : (listing_refusal false 2 places 1 549 ≡ 11) × (listing_refusal false 1 places 1 549 ≡ 18) × (listing_refusal false 1 places 2 600 ≡ 0)
    × (listing_refusal false 0 places 0 549 ≡ 11) × (listing_refusal false 0 places 3 550 ≡ 0) × (listing_refusal true 2 places 1 550 ≡ 0)
unfolding listing_refusal absent_refusal places_there listed_count lines_of_order longest_line u32_at four_at
listing-refusals = (refl, refl, refl, refl, refl, refl)
