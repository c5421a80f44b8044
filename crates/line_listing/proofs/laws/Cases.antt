-- Worked by computation: lines and head lines of small runs. Assumes nothing.
use Rattle.std.proofs.Common.{◌≡◌, ℕ, true, false, List, [], ◌∷◌, refl}
use Rattle.numerals.specs.digits.Decimal.{digits_in, digits_of}
use lib.Ieee.{nan, to_bits}
use Rattle.refusals.specs.Outcome.{onward}
use Rattle.numerals.specs.digits.Hexadecimal.{hex_digit, hex_digits, hex16}
use Rattle.numerals.specs.little_endian.LittleEndian.{four_at, u64_at}
use Rattle.julian.specs.declared.JulianDate.{JulianDate}
use Rattle.julian.specs.JulianDate.{julian}
use Rattle.leap_table.specs.rows.Table.{Row}
use Rattle.reasons.specs.Offending.{offending, parts_field, part_field}
use Rattle.reasons.specs.sentences.Render.{render, named_text}
use Rattle.reasons.specs.sentences.Texts.{fixed_text, texts}
use Rattle.reasons.specs.Sentence.{reason_of, sentence}
use Rattle.utc.specs.text.Ascii.{ascii_bytes}
use Rattle.line_listing.specs.lines.StampLine.{recorder, index_in, as_sentence, sentence_behind, number_told, refused, stamp_told, line_by}
use Rattle.line_listing.specs.head.Counts.{not_finite, kind_at, kinds_in}
use Rattle.line_listing.specs.head.Head.{counted, end_text}

-- of runs of 5 and 6 stamps, place 4 is the last of the GPS run, 5 the first of the TAI run, 10 its last, and 11 the first of the UTC run
pub recorders : (recorder 5 6 4 ≡ ascii_bytes "gps ") × (recorder 5 6 5 ≡ ascii_bytes "tai ") × (recorder 5 6 10 ≡ ascii_bytes "tai ")
    × (recorder 5 6 11 ≡ ascii_bytes "utc ")
unfolding recorder
recorders = (refl, refl, refl, refl)

pub indexes : (index_in 5 6 4 ≡ 4) × (index_in 5 6 5 ≡ 0) × (index_in 5 6 10 ≡ 5) × (index_in 5 6 11 ≡ 0) × (index_in 0 0 7 ≡ 7)
unfolding index_in
indexes = (refl, refl, refl, refl, refl)

pub last_line : end_text 11 0 ≡ ascii_bytes "lined up 11 without text 0\n"
unfolding end_text counted digits_of digits_in
last_line = refl

-- a stamp that is refused, and one that is left out, by whatever rows and date
pub refused-line : (rows : List Row) (d : JulianDate) → line_by false rows 5 6 4 d 9 ≡ ascii_bytes "gps 4 refused 9\n"
unfolding line_by recorder index_in stamp_told refused number_told sentence_behind digits_of digits_in
refused-line rows d = refl

pub left-out-line : (rows : List Row) (d : JulianDate) → line_by false rows 5 6 11 d 17 ≡ ascii_bytes "utc 0 refused 17\n"
unfolding line_by recorder index_in stamp_told refused number_told sentence_behind digits_of digits_in
left-out-line rows d = refl

-- with sentences, of a NaN
pub told_line : (rows : List Row) → line_by true rows 5 6 5 (julian nan nan) 9
    ≡ ascii_bytes "tai 0 refused 9: part or sum of a date is not finite: jd1 7ff8000000000000\n"
unfolding line_by recorder index_in stamp_told refused number_told sentence_behind as_sentence sentence reason_of onward offending parts_field part_field render
    named_text
    fixed_text texts hex16 hex_digits hex_digit to_bits digits_of digits_in
told_line rows = refl

-- ---- kinds and counts: ordered, left out, refused; a NaN and an infinity are not finite. The patterns are 7ff8000000000000 and 7ff0000000000000
abbrev nan_bytes : List ℕ
nan_bytes = 0 ∷ 0 ∷ 0 ∷ 0 ∷ 0 ∷ 0 ∷ 248 ∷ 127 ∷ []

abbrev inf_bytes : List ℕ
inf_bytes = 0 ∷ 0 ∷ 0 ∷ 0 ∷ 0 ∷ 0 ∷ 240 ∷ 127 ∷ []

pub kinds : (kind_at [] [] (0 ∷ 17 ∷ 9 ∷ []) 0 ≡ 0) × (kind_at [] [] (0 ∷ 17 ∷ 9 ∷ []) 1 ≡ 3) × (kind_at [] [] (0 ∷ 17 ∷ 9 ∷ []) 2 ≡ 2)
    × (kind_at nan_bytes [] (9 ∷ []) 0 ≡ 1) × (kind_at [] inf_bytes (6 ∷ []) 0 ≡ 1) × (kind_at nan_bytes [] (17 ∷ []) 0 ≡ 3)
unfolding kind_at not_finite u64_at four_at
kinds = (refl, refl, refl, refl, refl, refl)

pub counted-run : (kinds_in nan_bytes [] (9 ∷ 17 ∷ 0 ∷ 6 ∷ 9 ∷ []) 1 0 5 ≡ 1) × (kinds_in nan_bytes [] (9 ∷ 17 ∷ 0 ∷ 6 ∷ 9 ∷ []) 2 0 5 ≡ 2)
    × (kinds_in nan_bytes [] (9 ∷ 17 ∷ 0 ∷ 6 ∷ 9 ∷ []) 3 0 5 ≡ 1) × (kinds_in nan_bytes [] (9 ∷ 17 ∷ 0 ∷ 6 ∷ 9 ∷ []) 0 0 5 ≡ 1)
unfolding kinds_in kind_at not_finite u64_at four_at
counted-run = (refl, refl, refl, refl)
