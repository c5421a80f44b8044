-- i lines stand at the start, and each of the others has the room of the longest. Assumes nothing.
use Rattle.std.proofs.Common.{◌≡◌, ◌+◌, ◌-◌, ◌*◌, ◌≤◌, length}
use Rattle.numerals.specs.digits.Placed.{Placed}
use Rattle.line_listing.specs.lines.StampLine.{stamps}
use Rattle.line_listing.specs.lines.Asked.{page, page_line, page_count, lines_joined, summed}
use Rattle.line_listing.specs.lines.Parts.{longest_line}
use Rattle.line_listing.proofs.lines.place_lines.Given as goal

abbrev pub invariant-loop-i : goal.invariant-loop-i
invariant-loop-i l =
    Placed l.fn.out 0 (lines_joined (page_line l.sentences (stamps l.jd1s l.jd2s l.numbers l.first l.second) l.order l.line
    (page l.utc1 l.utc2 l.marks l.texts l.lengths l.nones)) l.i) l.at l.out
    × (l.at + (l.count - l.i) * longest_line l.sentences ≤ length l.fn.out)
    × (length l.out ≡ length l.fn.out)
    × (l.textless ≡ summed (page_count (stamps l.jd1s l.jd2s l.numbers l.first l.second) l.order l.line
    (page l.utc1 l.utc2 l.marks l.texts l.lengths l.nones)) l.i)
    × (l.textless ≤ l.i)
