-- The lines of an order of stamps, and the part of them that one call writes. Written from the header of C, ct_line_listing_part: whole lines, each given the
-- room of the longest, at most 256 in a part. Assumes nothing.
use Rattle.std.specs.Prelude.{◌≡◌, ℕ, zero, suc, ◌+◌, ◌-◌, ◌/◌, Bool, true, cond, ◌&&◌, List, [], ◌++◌, length, nat_lt, Result}
use Rattle.refusals.specs.declared.Refusal.{Refusal}
use Rattle.refusals.specs.Outcome.{Outcome, answer, onward, outcome}
use Rattle.utc.specs.iso_texts.TextCall.{buffer_holds}
use Rattle.leap_table.specs.rows.Table.{Row}
use Rattle.leap_table.specs.rows.Announced.{least}
use Rattle.line_listing.specs.declared.lines.Part.{Part}
use Rattle.line_listing.specs.lines.StampLine.{Stamps, line_in_order, place_line, no_text_count, date_of_place, number_of_place}

-- the most bytes of a line
unfoldable pub longest_line : Bool → ℕ
longest_line sentences = cond sentences 84 43

-- k lines from line `line` on
unfoldable pub listed_lines : Bool → List Row → Stamps → List ℕ → ℕ → ℕ → List ℕ
listed_lines sentences rows all order line zero = []
listed_lines sentences rows all order line (suc k) =
    listed_lines sentences rows all order line k ++ place_line sentences rows all (line_in_order order (line + k))

-- how many of them are ordered and without text
unfoldable pub textless_from : List Row → Stamps → List ℕ → ℕ → ℕ → ℕ
textless_from rows all order line zero = 0
textless_from rows all order line (suc k) =
    textless_from rows all order line k + no_text_count rows (date_of_place all (line_in_order order (line + k)))
    (number_of_place all (line_in_order order (line + k)))

-- the lines that an order has
unfoldable pub lines_of_order : List ℕ → ℕ
lines_of_order order = length order / 4

-- how many lines go into the part from `line` on, into `room` bytes
unfoldable pub listed_count : Bool → List ℕ → ℕ → ℕ → ℕ
listed_count sentences order line room = least (least (lines_of_order order - line) 256) (room / longest_line sentences)

-- each of k lines from `line` on names one of n stamps
unfoldable pub places_there : List ℕ → ℕ → ℕ → ℕ → Bool
places_there order n line zero = true
places_there order n line (suc k) = places_there order n line k && nat_lt (line_in_order order (line + k)) n

-- 18 where a line of the part names none, else 0: what the listing in one call refuses
unfoldable pub absent_refusal : Bool → ℕ → List ℕ → ℕ → ℕ → ℕ
absent_refusal sentences n order line room = cond (places_there order n line (listed_count sentences order line room)) 0 18

unfoldable pub listed_part : Bool → List Row → Stamps → List ℕ → ℕ → ℕ → List ℕ
listed_part sentences rows all order line room = listed_lines sentences rows all order line (listed_count sentences order line room)

-- the answer: how many bytes are written, the next line, and how many of the lines are without text
unfoldable pub part_answered : Bool → List Row → Stamps → List ℕ → ℕ → ℕ → Part
part_answered sentences rows all order line room = record {
  written = length (listed_part sentences rows all order line room);
  line = line + listed_count sentences order line room;
  textless = textless_from rows all order line (listed_count sentences order line room);
}

-- ---- the call: r answers the part by the table's rows, or the table's refusal, and the buffer, which held `before`, holds `after`
pub record ListedCall (sentences : Bool) (table : Outcome (List Row)) (all : Stamps) (order : List ℕ) (line : ℕ) (before : List ℕ) (r : Result Part Refusal)
    (after : List ℕ) : Type 0 where
  pub says : outcome r ≡ onward table (λ rows. answer (part_answered sentences rows all order line (length before)))
  pub holds : after ≡ buffer_holds (onward table (λ rows. answer (listed_part sentences rows all order line (length before)))) before
