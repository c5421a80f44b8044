-- The reader's closed cases in literal rows behind 2017's, as they stand while that is the last row: `Cases` has them by whatever row is the last. Computed.
-- Assumes nothing.
use mathlib.Core.Path.{◌≡◌, refl}
use mathlib.Core.List.{List, [], ◌∷◌, ◌++◌, map}
use Prim.Native.Nat.{ℕ, suc, ◌-◌}
use lib.ListN.{drop, get_or, replicate}
use lib.IntN.{pos}
use Rattle.numerals.specs.digits.Decimal.{is_digit}
use Rattle.calendar.specs.Calendar.{leap_size, lengths}
use Rattle.leap_table.specs.rows.Table.{Row, fixed, reached, month_number, none, fixed_rows, last_month}
use Rattle.leap_table.specs.offsets.WholeSeconds.{whole_seconds}
use Rattle.leap_lists.specs.declared.lines.Line.TheVariants as K
use Rattle.leap_lists.specs.lines.Scan.{line_blank, behind_blanks, first_digits, ended, number_then, last_number}
use Rattle.leap_lists.specs.lines.Months.{month_days, month_after, month_from}
use Rattle.leap_lists.specs.lines.Lines.{row_with, month_row, ntp_row, row_behind, row_of, expiry_of, line_from, line_says}
use Rattle.leap_lists.specs.Held.{seconds_from, library_row, none_held, later_fault, line_fault, with_line}
use Rattle.leap_lists.specs.Texts.{on_first, lines_of}
use Rattle.leap_lists.specs.Reading.{answered, refused_at, read_from, read_of}
use Rattle.leap_lists.specs.Writer.{lines_text}
use Rattle.leap_lists.proofs.Cases.{ascii_bytes, month_lines, fields_of, begun}

-- ---- lines outside the grammar
unfoldable pub others : List (List ℕ)
others =
    ascii_bytes "x" ∷
    ascii_bytes "2027" ∷
    ascii_bytes "2027-01" ∷
    ascii_bytes "2027-01 " ∷
    ascii_bytes "2027-01 x" ∷
    ascii_bytes "2027-1 38" ∷
    ascii_bytes "2027-001 38" ∷
    ascii_bytes "02027-01 38" ∷
    ascii_bytes "202-01 38" ∷
    ascii_bytes "2027-00 38" ∷
    ascii_bytes "2027-13 38" ∷
    ascii_bytes "2027-0138" ∷
    ascii_bytes "2027-01-38" ∷
    ascii_bytes "2027-01 38 9" ∷
    ascii_bytes "2027-01 38x" ∷
    ascii_bytes "2027-01 -38" ∷
    ascii_bytes "2027-01 +38" ∷
    ascii_bytes "2027-01 38.0" ∷
    ascii_bytes "2027-01 1234567890" ∷
    (ascii_bytes "2027-01" ++ (13 ∷ ascii_bytes "38")) ∷
    ascii_bytes "2027/01 38" ∷
    ascii_bytes "-027-01 38" ∷
    ascii_bytes "2027 -01 38" ∷
    ascii_bytes "2027- 01 38" ∷
    ascii_bytes "2027-01,38" ∷
    ascii_bytes "2027-01 #38" ∷
    ascii_bytes "2272060800" ∷
    ascii_bytes "2272060801 10" ∷
    ascii_bytes "2272147200 10" ∷
    ascii_bytes "2272060800 10s" ∷
    ascii_bytes "2272060800,10" ∷
    ascii_bytes "1234567890123 10" ∷
    ascii_bytes "255611289600 10" ∷
    ascii_bytes "#@" ∷
    ascii_bytes "#@ " ∷
    ascii_bytes "#@3928521600" ∷
    ascii_bytes "#@ x" ∷
    ascii_bytes "#@ 3928521600 x" ∷
    ascii_bytes "#@ 1234567890123" ∷
    ascii_bytes "@ 3928521600" ∷
    ascii_bytes "0 0x" ∷
    (0 ∷ []) ∷
    (ascii_bytes "2027-01 38" ++ (0 ∷ [])) ∷
    (239 ∷ (188 ∷ (146 ∷ (239 ∷ (188 ∷ (144 ∷ (239 ∷ (188 ∷ (146 ∷ (239 ∷ (188 ∷ (151 ∷ ascii_bytes "-01 38")))))))))))) ∷
    []

pub outside-lines : map line_says others ≡ replicate 44 K.Outside
unfolding others line_says line_from row_of row_behind month_row ntp_row row_with expiry_of last_number number_then ended first_digits behind_blanks line_blank
    is_digit month_from month_after month_days leap_size lengths
outside-lines = refl

-- ---- lines of every kind
unfoldable pub kinds : List (List ℕ)
kinds =
    [] ∷
    (ascii_bytes " " ++ (9 ∷ (13 ∷ []))) ∷
    ascii_bytes "# a comment" ∷
    ascii_bytes "#" ∷
    ascii_bytes "  # @" ∷
    ascii_bytes "2027-01 38" ∷
    (ascii_bytes " " ++ (9 ∷ (ascii_bytes "2027-01" ++ (9 ∷ (ascii_bytes " 38 " ++ (13 ∷ [])))))) ∷
    ascii_bytes "2027-01 38# made up" ∷
    ascii_bytes "9999-12 999999999" ∷
    ascii_bytes "0000-01 0" ∷
    ascii_bytes "2272060800 10" ∷
    (ascii_bytes "2272060800" ++ (9 ∷ (ascii_bytes "10" ++ (9 ∷ ascii_bytes "# 1 Jan 1972")))) ∷
    (13 ∷ (ascii_bytes " 3644697600 36" ++ (13 ∷ []))) ∷
    ascii_bytes "0 5#-" ∷
    ascii_bytes "255608611200 1" ∷
    ascii_bytes "#@ 3928521600" ∷
    (ascii_bytes "#@" ++ (9 ∷ ascii_bytes " 3928521601 # 28 June")) ∷
    (ascii_bytes "#@ 999999999999" ++ (13 ∷ [])) ∷
    []

pub kinds_read : map line_says kinds
    ≡ K.Blank ∷
    K.Blank ∷
    K.Blank ∷
    K.Blank ∷
    K.Blank ∷
    K.Row 24324 38 ∷
    K.Row 24324 38 ∷
    K.Row 24324 38 ∷
    K.Row 119999 999999999 ∷
    K.Row 0 0 ∷
    K.Row 23664 10 ∷
    K.Row 23664 10 ∷
    K.Row 24186 36 ∷
    K.Row 22800 5 ∷
    K.Row 119999 1 ∷
    K.Expiry 60489 ∷
    K.Expiry 60489 ∷
    K.Expiry 11589094 ∷
    []
unfolding kinds line_says line_from row_of row_behind month_row ntp_row row_with expiry_of last_number number_then ended first_digits behind_blanks line_blank
    is_digit month_from month_after month_days leap_size lengths
kinds_read = refl

-- ---- texts, by the number of the refusal, its line, the rows and the expiry
-- and one behind them
pub one_more : fields_of (read_of (lines_text (month_lines ++ (ascii_bytes "2027-01 38" ∷ [])))) ≡ 0 ∷ 0 ∷ 1 ∷ 0 ∷ []
unfolding month_lines read_of read_from lines_of on_first lines_text none_held line_fault with_line later_fault library_row seconds_from whole_seconds fixed
    reached month_number answered refused_at line_says line_from row_of row_behind month_row ntp_row row_with expiry_of last_number number_then ended
    first_digits behind_blanks line_blank is_digit month_from month_after month_days leap_size lengths
one_more = refl

-- the first fault in the text's order: line 2 is outside the grammar, line 3 goes by two seconds
pub not_a_line : fields_of (read_of (lines_text (ascii_bytes "2027-01 38" ∷ ascii_bytes "2028-01" ∷ ascii_bytes "2029-01 40" ∷ []))) ≡ 15 ∷ 2 ∷ 0 ∷ 0 ∷ []
unfolding read_of read_from lines_of on_first lines_text none_held line_fault with_line later_fault library_row seconds_from whole_seconds fixed reached
    month_number answered refused_at line_says line_from row_of row_behind month_row ntp_row row_with expiry_of last_number number_then ended first_digits
    behind_blanks line_blank is_digit month_from month_after month_days leap_size lengths
not_a_line = refl

pub not_rising : fields_of (read_of (lines_text (ascii_bytes "2027-01 38" ∷ ascii_bytes "2027-01 39" ∷ []))) ≡ 21 ∷ 2 ∷ 0 ∷ 0 ∷ []
unfolding read_of read_from lines_of on_first lines_text none_held line_fault with_line later_fault library_row seconds_from whole_seconds fixed reached
    month_number answered refused_at line_says line_from row_of row_behind month_row ntp_row row_with expiry_of last_number number_then ended first_digits
    behind_blanks line_blank is_digit month_from month_after month_days leap_size lengths
not_rising = refl

pub two-seconds : fields_of (read_of (lines_text (ascii_bytes "2027-01 38" ∷ ascii_bytes "2027-07 40" ∷ []))) ≡ 22 ∷ 2 ∷ 0 ∷ 0 ∷ []
unfolding read_of read_from lines_of on_first lines_text none_held line_fault with_line later_fault library_row seconds_from whole_seconds fixed reached
    month_number answered refused_at line_says line_from row_of row_behind month_row ntp_row row_with expiry_of last_number number_then ended first_digits
    behind_blanks line_blank is_digit month_from month_after month_days leap_size lengths
two-seconds = refl

pub one_less : fields_of (read_of (lines_text (ascii_bytes "2027-01 36" ∷ ascii_bytes "2027-07 35" ∷ []))) ≡ 0 ∷ 0 ∷ 2 ∷ 0 ∷ []
unfolding read_of read_from lines_of on_first lines_text none_held line_fault with_line later_fault library_row seconds_from whole_seconds fixed reached
    month_number answered refused_at line_says line_from row_of row_behind month_row ntp_row row_with expiry_of last_number number_then ended first_digits
    behind_blanks line_blank is_digit month_from month_after month_days leap_size lengths
one_less = refl

pub sixteen : fields_of (read_of (lines_text (
    ascii_bytes "2020-01 38" ∷ ascii_bytes "2021-01 39" ∷ ascii_bytes "2022-01 40" ∷ ascii_bytes "2023-01 41" ∷
    ascii_bytes "2024-01 42" ∷ ascii_bytes "2025-01 43" ∷ ascii_bytes "2026-01 44" ∷ ascii_bytes "2027-01 45" ∷
    ascii_bytes "2028-01 46" ∷ ascii_bytes "2029-01 47" ∷ ascii_bytes "2030-01 48" ∷ ascii_bytes "2031-01 49" ∷
    ascii_bytes "2032-01 50" ∷ ascii_bytes "2033-01 51" ∷ ascii_bytes "2034-01 52" ∷ ascii_bytes "2035-01 53" ∷ [])))
    ≡ 0 ∷ 0 ∷ 16 ∷ 0 ∷ []
unfolding read_of read_from lines_of on_first lines_text none_held line_fault with_line later_fault library_row seconds_from whole_seconds fixed reached
    month_number answered refused_at line_says line_from row_of row_behind month_row ntp_row row_with expiry_of last_number number_then ended first_digits
    behind_blanks line_blank is_digit month_from month_after month_days leap_size lengths
sixteen = refl

-- 20 comes before 21 and 22
pub seventeen : fields_of (read_of (lines_text (
    ascii_bytes "2020-01 38" ∷ ascii_bytes "2021-01 39" ∷ ascii_bytes "2022-01 40" ∷ ascii_bytes "2023-01 41" ∷
    ascii_bytes "2024-01 42" ∷ ascii_bytes "2025-01 43" ∷ ascii_bytes "2026-01 44" ∷ ascii_bytes "2027-01 45" ∷
    ascii_bytes "2028-01 46" ∷ ascii_bytes "2029-01 47" ∷ ascii_bytes "2030-01 48" ∷ ascii_bytes "2031-01 49" ∷
    ascii_bytes "2032-01 50" ∷ ascii_bytes "2033-01 51" ∷ ascii_bytes "2034-01 52" ∷ ascii_bytes "2035-01 53" ∷
    ascii_bytes "2020-01 99" ∷ [])))
    ≡ 20 ∷ 17 ∷ 0 ∷ 0 ∷ []
unfolding read_of read_from lines_of on_first lines_text none_held line_fault with_line later_fault library_row seconds_from whole_seconds fixed reached
    month_number answered refused_at line_says line_from row_of row_behind month_row ntp_row row_with expiry_of last_number number_then ended first_digits
    behind_blanks line_blank is_digit month_from month_after month_days leap_size lengths
seventeen = refl

-- 21 comes before 22
pub rising-first : fields_of (read_of (lines_text (ascii_bytes "2027-01 38" ∷ ascii_bytes "2026-01 99" ∷ []))) ≡ 21 ∷ 2 ∷ 0 ∷ 0 ∷ []
unfolding read_of read_from lines_of on_first lines_text none_held line_fault with_line later_fault library_row seconds_from whole_seconds fixed reached
    month_number answered refused_at line_says line_from row_of row_behind month_row ntp_row row_with expiry_of last_number number_then ended first_digits
    behind_blanks line_blank is_digit month_from month_after month_days leap_size lengths
rising-first = refl

-- a row of the library's may stand behind a later one
pub own-behind-later : fields_of (read_of (lines_text (ascii_bytes "2027-01 38" ∷ ascii_bytes "2017-01 37" ∷ []))) ≡ 0 ∷ 0 ∷ 1 ∷ 0 ∷ []
unfolding read_of read_from lines_of on_first lines_text none_held line_fault with_line later_fault library_row seconds_from whole_seconds fixed reached
    month_number answered refused_at line_says line_from row_of row_behind month_row ntp_row row_with expiry_of last_number number_then ended first_digits
    behind_blanks line_blank is_digit month_from month_after month_days leap_size lengths
own-behind-later = refl

-- the rows that are read, place by place
pub two-rows : ((read_of (lines_text (ascii_bytes "2027-01 38" ∷ ascii_bytes "2030-07 37" ∷ []))).table.months ≡ pos 24324 ∷ pos 24366 ∷ replicate 14 (pos 0))
    × ((read_of (lines_text (ascii_bytes "2027-01 38" ∷ ascii_bytes "2030-07 37" ∷ []))).table.seconds ≡ pos 38 ∷ pos 37 ∷ replicate 14 (pos 0))
unfolding read_of read_from lines_of on_first lines_text none_held line_fault with_line later_fault library_row seconds_from whole_seconds fixed reached
    month_number answered refused_at line_says line_from row_of row_behind month_row ntp_row row_with expiry_of last_number number_then ended
    first_digits behind_blanks
    line_blank is_digit month_from month_after month_days leap_size lengths
two-rows = (refl, refl)

-- ---- what the library has
-- from the last row but one to the last: no month between them
pub no_other_rows : begun (suc (last_month - (get_or fixed (fixed_rows - 2) none).month)) (get_or fixed (fixed_rows - 2) none).month
    ≡ map (λ (r : Row). r.month) (drop (fixed_rows - 2) fixed)
unfolding library_row seconds_from whole_seconds fixed reached month_number
no_other_rows = refl
