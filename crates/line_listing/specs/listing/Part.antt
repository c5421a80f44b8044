-- The part of the listing that one call writes. Written from the header of C, ct_line_listing_part: a caller's cursor is a line and a count, both 0 at the
-- start; line 0 is the head, lines 1 to n those of the stamps, then comes the last line, and after it a part is empty. Refused are 18, a line of the part that
-- names a stamp that is not there, and 11, a buffer of less than 550 bytes. Assumes nothing.
use Rattle.std.specs.Prelude.{◌≡◌, ℕ, ◌+◌, ◌-◌, ◌%◌, ◌≤◌, Bool, cond, List, [], length, ◌==◌, nat_le, Result, Ok}
use Rattle.refusals.specs.declared.Refusal.{Refusal}
use Rattle.refusals.specs.Outcome.{Outcome, onward, outcome}
use Rattle.utc.specs.iso_texts.TextCall.{buffer_holds}
use Rattle.leap_table.specs.rows.Table.{Row}
use Rattle.leap_table.specs.rows.Announced.{unless_refused}
use Rattle.line_listing.specs.declared.head.RunEnd.{RunEnd}
use Rattle.line_listing.specs.declared.lines.Part.{Part}
use Rattle.line_listing.specs.head.Counts.{kinds_in}
use Rattle.line_listing.specs.head.Head.{head_text, end_text}
use Rattle.line_listing.specs.lines.StampLine.{Stamps}
use Rattle.line_listing.specs.lines.Parts.{lines_of_order, listed_count, listed_part, textless_from, absent_refusal}

-- the bytes of a part, and the cursor behind it
pub record Step : Type 0 where
  pub bytes : List ℕ
  pub line : ℕ
  pub textless : ℕ

abbrev pub step : List ℕ → ℕ → ℕ → Step
step b l t = record { bytes = b; line = l; textless = t }

-- how many stamps are ordered: those of number 0
abbrev pub ordered_of : Stamps → ℕ
ordered_of all = kinds_in all.jd1s all.jd2s all.numbers 0 0 (length all.numbers)

-- the head
unfoldable pub head_step : RunEnd → RunEnd → RunEnd → Stamps → ℕ → Step
head_step gps tai utc all textless = step (head_text gps tai utc all) 1 textless

-- lines of stamps, the first of them line `line` - 1 of the order. The count is a number of 64 bits
unfoldable pub lines_step : Bool → List Row → Stamps → List ℕ → ℕ → ℕ → ℕ → Step
lines_step sentences rows all order line textless room =
    step (listed_part sentences rows all order (line - 1) room) (line + listed_count sentences order (line - 1) room)
    ((textless + textless_from rows all order (line - 1) (listed_count sentences order (line - 1) room)) % 18446744073709551616)

-- the last line
unfoldable pub end_step : Stamps → ℕ → ℕ → Step
end_step all line textless = step (end_text (ordered_of all) textless) (line + 1) textless

-- THE PART from a cursor on, into so many bytes
unfoldable pub part_from : Bool → List Row → RunEnd → RunEnd → RunEnd → Stamps → List ℕ → ℕ → ℕ → ℕ → Step
part_from sentences rows gps tai utc all order line textless room =
    cond (line == 0) (head_step gps tai utc all textless)
    (cond (nat_le line (lines_of_order order)) (lines_step sentences rows all order line textless room)
    (cond (line == lines_of_order order + 1) (end_step all line textless) (step [] line textless)))

-- its refusal, of n stamps, or 0
unfoldable pub listing_refusal : Bool → ℕ → List ℕ → ℕ → ℕ → ℕ
listing_refusal sentences n order line room =
    cond (cond (line == 0) 0 (absent_refusal sentences n order (line - 1) room) == 0) (cond (nat_le 550 room) 0 11) 18

abbrev pub step_answered : Step → Part
step_answered s = record { written = length s.bytes; line = s.line; textless = s.textless }

-- ---- the call: r answers the part by the table's rows, or a refusal, and the buffer, which held `before`, holds `after`
pub record ListingCall (sentences : Bool) (table : Outcome (List Row)) (gps tai utc : RunEnd) (all : Stamps) (order : List ℕ) (line textless : ℕ)
    (before : List ℕ) (r : Result Part Refusal) (after : List ℕ) : Type 0 where
  pub says : outcome r
      ≡ onward table (λ rows. unless_refused (listing_refusal sentences (length all.numbers) order line (length before))
      (step_answered (part_from sentences rows gps tai utc all order line textless (length before))))
  pub holds : after
      ≡ buffer_holds (onward table (λ rows. unless_refused (listing_refusal sentences (length all.numbers) order line (length before))
      (part_from sentences rows gps tai utc all order line textless (length before)).bytes)) before
  pub fits : (p : Part) → r ≡ Ok p → p.written ≤ length before
