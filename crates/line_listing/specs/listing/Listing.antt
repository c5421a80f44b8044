-- THE WHOLE LISTING of up to three recorders, from the bytes of their runs to its own. Written from the comment at the head of programs/line_up.c: the runs in
-- GPS, TAI and UTC as stamp blocks, each stamp converted to TAI; the lining up; the first lines, a line for each stamp and the last line. A run that is not
-- named has no bytes. Refused only as the lining up is: 13 for too many stamps. Assumes nothing.
use Rattle.std.specs.Prelude.{ℕ, ◌*◌, Bool, cond, List, [], ◌++◌, length, replicate}
use Rattle.refusals.specs.Outcome.{Outcome, answer, onward}
use Rattle.constants.specs.scale_numbers.Scales.{UTC, TAI, GPS}
use Rattle.leap_table.specs.rows.Table.{Row}
use Rattle.runs.specs.by_formula.Run.{RunCall}
use Rattle.line_up.specs.LineUp.{LinedUp}
use Rattle.line_listing.specs.declared.head.RunEnd.{RunEnd}
use Rattle.line_listing.specs.taken.Run.{run_blocks, taken_run}
use Rattle.line_listing.specs.order.Order.{lines_in_order}
use Rattle.line_listing.specs.head.Head.{head_text, end_text}
use Rattle.line_listing.specs.lines.StampLine.{Stamps, stamps}
use Rattle.line_listing.specs.lines.Parts.{lines_of_order, listed_lines, textless_from}

-- ---- a recorder's run: whether it is named, and its bytes
pub record NamedRun : Type 0 where
  pub named : Bool
  pub bytes : List ℕ

abbrev pub bytes_of_named : NamedRun → List ℕ
bytes_of_named r = cond r.named r.bytes []

-- its stamps in TAI, and their numbers
unfoldable pub run_taken : List Row → ℕ → NamedRun → RunCall
run_taken rows scale r = taken_run rows scale (run_blocks (bytes_of_named r)).sizes (bytes_of_named r)

-- the blocks before the one that is refused, and the number of that
unfoldable pub run_end_of : NamedRun → RunEnd
run_end_of r = record { named = r.named; block = length (run_blocks (bytes_of_named r)).sizes; refused = (run_blocks (bytes_of_named r)).refused }

-- ---- three runs, one after the other
unfoldable pub joined_runs : RunCall → RunCall → RunCall → Stamps
joined_runs g t u =
    stamps (g.out1 ++ (t.out1 ++ u.out1)) (g.out2 ++ (t.out2 ++ u.out2)) (g.numbers ++ (t.numbers ++ u.numbers)) (length g.numbers)
    (length t.numbers)

unfoldable pub all_taken : List Row → NamedRun → NamedRun → NamedRun → Stamps
all_taken rows gps tai utc = joined_runs (run_taken rows GPS gps) (run_taken rows TAI tai) (run_taken rows UTC utc)

-- the stamps with the numbers that the lining up leaves
abbrev pub numbered_by : Stamps → List ℕ → Stamps
numbered_by all ms = stamps all.jd1s all.jd2s ms all.first all.second

-- lined up, with room for a place of each stamp
unfoldable pub stamps_in_order : Stamps → LinedUp
stamps_in_order all =
    lines_in_order all.jd1s all.jd2s all.numbers all.first all.second (replicate (4 * length all.numbers) 0) (4 * length all.numbers)
    (4 * length all.numbers)

-- ---- the listing of stamps in an order, of which so many are ordered
unfoldable pub listing_text : Bool → List Row → RunEnd → RunEnd → RunEnd → Stamps → List ℕ → ℕ → List ℕ
listing_text sentences rows gps tai utc all order many =
    head_text gps tai utc all
    ++ (listed_lines sentences rows all order 0 (lines_of_order order) ++ end_text many (textless_from rows all order 0 (lines_of_order order)))

unfoldable pub listing_by : Bool → List Row → RunEnd → RunEnd → RunEnd → Stamps → LinedUp → Outcome (List ℕ)
listing_by sentences rows gps tai utc all l =
    onward l.answer (λ many. answer (listing_text sentences rows gps tai utc (numbered_by all l.numbers) l.out many))

-- THE LISTING
unfoldable pub line_listing : Bool → List Row → NamedRun → NamedRun → NamedRun → Outcome (List ℕ)
line_listing sentences rows gps tai utc =
    listing_by sentences rows (run_end_of gps) (run_end_of tai) (run_end_of utc) (all_taken rows gps tai utc) (stamps_in_order (all_taken rows gps tai utc))
