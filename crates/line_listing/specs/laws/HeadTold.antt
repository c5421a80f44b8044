-- The first lines of the listing in their words, by the lines of each run. Written from the head of programs/line_up.c: of each named run how many stamps it
-- has and how many are not finite, refused and left out. Assumes nothing.
use Rattle.std.specs.Prelude.{ℕ, ◌+◌, cond, List, [], ◌++◌, length, ◌==◌}
use Rattle.numerals.specs.digits.Decimal.{digits_of}
use Rattle.utc.specs.text.Ascii.{ascii_bytes}
use Rattle.line_listing.specs.declared.head.RunEnd.{RunEnd}
use Rattle.line_listing.specs.head.Head.{one_if_named}
use Rattle.line_listing.specs.lines.StampLine.{Stamps}
use Rattle.line_listing.specs.laws.Places.{in_run, only}
use Rattle.line_listing.specs.laws.RunLines.{lines_of_kind}

-- which block ended a run, and its refusal, where one did
abbrev pub block_told : RunEnd → List ℕ
block_told end =
    cond (end.refused == 0) [] (ascii_bytes " block " ++ (digits_of end.block ++ (ascii_bytes " refused " ++ digits_of end.refused)))

-- a run's line by its name, its numbers and what ended it
abbrev pub run_line_told : List ℕ → ℕ → ℕ → ℕ → ℕ → RunEnd → List ℕ
run_line_told name stamps not_finite refused left_out end =
    name ++ (digits_of stamps
    ++ (ascii_bytes " not finite " ++ (digits_of not_finite
    ++ (ascii_bytes " refused " ++ (digits_of refused
    ++ (ascii_bytes " left out " ++ (digits_of left_out
    ++ (block_told end ++ ascii_bytes "\n"))))))))

-- by the listing's lines of the run from a place up to a place, whose kinds are 1 not finite, 2 refused and 3 left out
abbrev pub run_by_lines : List ℕ → RunEnd → Stamps → List ℕ → ℕ → ℕ → List ℕ
run_by_lines name end all lines from to =
    run_line_told name (length (only (in_run from to) lines)) (lines_of_kind all.jd1s all.jd2s all.numbers 1 from to lines)
    (lines_of_kind all.jd1s all.jd2s all.numbers 2 from to lines) (lines_of_kind all.jd1s all.jd2s all.numbers 3 from to lines) end

-- a run that is not named has none
abbrev pub run_if_told : List ℕ → RunEnd → Stamps → List ℕ → ℕ → ℕ → List ℕ
run_if_told name end all lines from to = cond end.named (run_by_lines name end all lines from to) []

-- how many runs are named, and the line of each: GPS up to `first`, TAI from there up to `first + second`, and UTC from there to the end
abbrev pub head_told : RunEnd → RunEnd → RunEnd → Stamps → List ℕ → List ℕ
head_told gps tai utc all lines =
    ascii_bytes "line up " ++ (digits_of (one_if_named gps.named + one_if_named tai.named + one_if_named utc.named) ++ (ascii_bytes " runs\n"
    ++ (run_if_told (ascii_bytes "gps ") gps all lines 0 all.first
    ++ (run_if_told (ascii_bytes "tai ") tai all lines all.first (all.first + all.second)
    ++ run_if_told (ascii_bytes "utc ") utc all lines (all.first + all.second) (length all.numbers)))))
