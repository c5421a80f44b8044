-- The first lines of a listing, worked by computation: of three runs with other counts each, and where one run is not named. Assumes nothing.
use Rattle.std.proofs.Common.{◌≡◌, ℕ, true, false, List, [], ◌∷◌, ◌++◌, take, refl}
use Rattle.numerals.specs.digits.Decimal.{digits_in, digits_of}
use Rattle.numerals.specs.little_endian.LittleEndian.{four_at, u64_at}
use Rattle.utc.specs.text.Ascii.{ascii_bytes}
use Rattle.line_listing.specs.declared.head.RunEnd.{RunEnd}
use Rattle.line_listing.specs.lines.StampLine.{Stamps, stamps}
use Rattle.line_listing.specs.head.Counts.{not_finite, kind_at, kinds_in, first_end, second_end}
use Rattle.line_listing.specs.head.Head.{counted, block_end, run_line, run_if_named, one_if_named, head_text}

-- parts as bytes: 0, a NaN and an infinity, 7ff8000000000000 and 7ff0000000000000
abbrev o : List ℕ
o = 0 ∷ 0 ∷ 0 ∷ 0 ∷ 0 ∷ 0 ∷ 0 ∷ 0 ∷ []

abbrev n : List ℕ
n = 0 ∷ 0 ∷ 0 ∷ 0 ∷ 0 ∷ 0 ∷ 248 ∷ 127 ∷ []

abbrev f : List ℕ
f = 0 ∷ 0 ∷ 0 ∷ 0 ∷ 0 ∷ 0 ∷ 240 ∷ 127 ∷ []

-- the GPS run has a NaN and an infinity, one that is refused for its two-sum, and one in the line; the TAI run two that are left out and one refused; the UTC
-- run one in the line and a NaN
abbrev nine_stamps : Stamps
nine_stamps =
    stamps (n ++ (o ++ (o ++ (o ++ (o ++ (o ++ (o ++ (o ++ o)))))))) (o ++ (f ++ (o ++ (o ++ (o ++ (o ++ (o ++ (o ++ n))))))))
    (9 ∷ 9 ∷ 9 ∷ 0 ∷ 17 ∷ 17 ∷ 1 ∷ 0 ∷ 6 ∷ []) 4 3

abbrev whole : RunEnd
whole = record { named = true; block = 0; refused = 0 }

-- its third block was cut off
abbrev broken : RunEnd
broken = record { named = true; block = 2; refused = 14 }

abbrev not_named : RunEnd
not_named = record { named = false; block = 0; refused = 0 }

pub head_lines : head_text whole broken whole nine_stamps
    ≡ ascii_bytes "line up 3 runs\ngps 4 not finite 2 refused 1 left out 0\n"
    ++ (ascii_bytes "tai 3 not finite 0 refused 1 left out 2 block 2 refused 14\n" ++ ascii_bytes "utc 2 not finite 1 refused 0 left out 0\n")
unfolding head_text run_if_named run_line block_end one_if_named counted kinds_in kind_at not_finite first_end second_end u64_at four_at digits_of digits_in
head_lines = refl

-- the number behind `not finite` counts those
pub not_finite_told : take 18 (run_line (ascii_bytes "gps ") whole nine_stamps.jd1s nine_stamps.jd2s nine_stamps.numbers 0 4)
    ≡ ascii_bytes "gps 4 not finite 2"
unfolding run_line block_end counted kinds_in kind_at not_finite u64_at four_at digits_of digits_in
not_finite_told = refl

-- and the TAI run is counted behind the GPS run
pub tai-counted-behind : take 73 (head_text whole broken whole nine_stamps)
    ≡ ascii_bytes "line up 3 runs\ngps 4 not finite 2 refused 1 left out 0\ntai 3 not finite 0"
unfolding head_text run_if_named run_line block_end one_if_named counted kinds_in kind_at not_finite first_end second_end u64_at four_at digits_of digits_in
tai-counted-behind = refl

-- the block that ended a run stands before its refusal
pub block-told : block_end broken ≡ ascii_bytes " block 2 refused 14"
unfolding block_end counted digits_of digits_in
block-told = refl

-- a run that is not named has no line
pub head_of_two : head_text broken not_named whole nine_stamps
    ≡ ascii_bytes "line up 2 runs\ngps 4 not finite 2 refused 1 left out 0 block 2 refused 14\nutc 2 not finite 1 refused 0 left out 0\n"
unfolding head_text run_if_named run_line block_end one_if_named counted kinds_in kind_at not_finite first_end second_end u64_at four_at digits_of digits_in
head_of_two = refl
