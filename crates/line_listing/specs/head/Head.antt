-- The first lines of the listing and the last, as lists of bytes. Written from the comment at the head of programs/line_up.c: how many runs are named; of each
-- of them how many stamps it has and how many are not finite, refused and left out, and, where a block ended it, which and why; and in the end how many stamps
-- are lined up, and how many of them have no text. Assumes nothing.
use Rattle.std.specs.Prelude.{ℕ, ◌+◌, ◌-◌, Bool, cond, List, [], ◌∷◌, ◌++◌, length, ◌==◌}
use Rattle.numerals.specs.digits.Decimal.{digits_of}
use Rattle.utc.specs.text.Ascii.{ascii_bytes}
use Rattle.line_listing.specs.declared.head.RunEnd.{RunEnd}
use Rattle.line_listing.specs.lines.StampLine.{Stamps}
use Rattle.line_listing.specs.head.Counts.{kinds_in, first_end, second_end}

-- words and a number
unfoldable pub counted : List ℕ → ℕ → List ℕ
counted words n = words ++ digits_of n

-- which block ended a run, and its refusal, where one did
unfoldable pub block_end : RunEnd → List ℕ
block_end end = cond (end.refused == 0) [] (counted (ascii_bytes " block ") end.block ++ counted (ascii_bytes " refused ") end.refused)

-- the line of a run of n stamps from `from` on
unfoldable pub run_line : List ℕ → RunEnd → List ℕ → List ℕ → List ℕ → ℕ → ℕ → List ℕ
run_line name end js ks ns from n =
    ((((counted name n ++ counted (ascii_bytes " not finite ") (kinds_in js ks ns 1 from n)) ++ counted (ascii_bytes " refused ") (kinds_in js ks ns 2 from n))
    ++ counted (ascii_bytes " left out ") (kinds_in js ks ns 3 from n))
    ++ block_end end)
    ++ (10 ∷ [])

-- a run that is not named has no line
unfoldable pub run_if_named : List ℕ → RunEnd → List ℕ → List ℕ → List ℕ → ℕ → ℕ → List ℕ
run_if_named name end js ks ns from n = cond end.named (run_line name end js ks ns from n) []

unfoldable pub one_if_named : Bool → ℕ
one_if_named b = cond b 1 0

unfoldable pub head_text : RunEnd → RunEnd → RunEnd → Stamps → List ℕ
head_text gps tai utc all =
    (((counted (ascii_bytes "line up ") (one_if_named gps.named + one_if_named tai.named + one_if_named utc.named) ++ ascii_bytes " runs\n")
    ++ run_if_named (ascii_bytes "gps ") gps all.jd1s all.jd2s all.numbers 0 (first_end all))
    ++ run_if_named (ascii_bytes "tai ") tai all.jd1s all.jd2s all.numbers (first_end all) (second_end all - first_end all))
    ++ run_if_named (ascii_bytes "utc ") utc all.jd1s all.jd2s all.numbers (second_end all) (length all.numbers - second_end all)

unfoldable pub end_text : ℕ → ℕ → List ℕ
end_text ordered textless = (counted (ascii_bytes "lined up ") ordered ++ counted (ascii_bytes " without text ") textless) ++ (10 ∷ [])
