-- Closed cases of the reader: lines outside the grammar, lines of every kind, the library's own rows in both forms, and texts that are refused with each number
-- and the line at fault. Computed. Assumes nothing.
use mathlib.Core.Path.{◌≡◌, refl}
use mathlib.Core.Bool.{Bool, true, cond, ◌&&◌}
use mathlib.Core.List.{List, [], ◌∷◌, ◌++◌, map}
use Prim.Native.Nat.{ℕ, zero, suc, ◌+◌, ◌-◌, ◌*◌, ◌/◌}
use Prim.Native.Char.{code}
use Prim.Native.String.{String}
use Prim.Native.String as Native
use lib.ListN.{drop, get_or, replicate}
use lib.IntN.{pos}
use Rattle.numerals.specs.digits.Decimal.{is_digit, digits_in, digits_of}
use Rattle.calendar.specs.Calendar.{leap_size, lengths}
use Rattle.leap_table.specs.rows.Table.{Row, fixed, reached, month_number, none, last_month, last_seconds}
use Rattle.leap_table.specs.offsets.WholeSeconds.{whole_seconds}
use Rattle.leap_lists.specs.declared.lines.Line.TheVariants as K
use Rattle.leap_lists.specs.lines.Scan.{line_blank, behind_blanks, first_digits, ended, number_then, last_number}
use Rattle.leap_lists.specs.lines.Months.{month_days, month_after, month_from}
use Rattle.leap_lists.specs.lines.Lines.{row_with, month_row, ntp_row, row_behind, row_of, expiry_of, line_from, line_says}
use Rattle.leap_lists.specs.Held.{seconds_from, library_row, none_held, later_fault, line_fault, with_line}
use Rattle.leap_lists.specs.Texts.{on_first, lines_of}
use Rattle.leap_lists.specs.Reading.{ListAnswer, answered, refused_at, read_from, read_of}
use Rattle.leap_lists.specs.Writer.{last_digits, month_line, lines_text}

-- the bytes of a text that is written out here
abbrev pub ascii_bytes : String → List ℕ
ascii_bytes Native.[] = []
ascii_bytes (Native.◌∷◌ c s) = code c ∷ ascii_bytes s

-- ---- lines outside the grammar
unfoldable pub others : List (List ℕ)
others =
    ascii_bytes "x" ∷
    ascii_bytes "2012" ∷
    ascii_bytes "2012-01" ∷
    ascii_bytes "2012-01 " ∷
    ascii_bytes "2012-01 x" ∷
    ascii_bytes "2012-1 35" ∷
    ascii_bytes "2012-001 35" ∷
    ascii_bytes "02012-01 35" ∷
    ascii_bytes "201-01 35" ∷
    ascii_bytes "2012-00 35" ∷
    ascii_bytes "2012-13 35" ∷
    ascii_bytes "2012-0135" ∷
    ascii_bytes "2012-01-35" ∷
    ascii_bytes "2012-01 35 9" ∷
    ascii_bytes "2012-01 35x" ∷
    ascii_bytes "2012-01 -35" ∷
    ascii_bytes "2012-01 +35" ∷
    ascii_bytes "2012-01 35.0" ∷
    ascii_bytes "2012-01 1234567890" ∷
    (ascii_bytes "2012-01" ++ (13 ∷ ascii_bytes "35")) ∷
    ascii_bytes "2012/01 35" ∷
    ascii_bytes "-012-01 35" ∷
    ascii_bytes "2012 -01 35" ∷
    ascii_bytes "2012- 01 35" ∷
    ascii_bytes "2012-01,35" ∷
    ascii_bytes "2012-01 #35" ∷
    ascii_bytes "2272060800" ∷
    ascii_bytes "2272060801 10" ∷
    ascii_bytes "2272147200 10" ∷
    ascii_bytes "2272060800 10s" ∷
    ascii_bytes "2272060800,10" ∷
    ascii_bytes "1234567890123 10" ∷
    ascii_bytes "255611289600 10" ∷
    ascii_bytes "#@" ∷
    ascii_bytes "#@ " ∷
    ascii_bytes "#@3928521600" ∷
    ascii_bytes "#@ x" ∷
    ascii_bytes "#@ 3928521600 x" ∷
    ascii_bytes "#@ 1234567890123" ∷
    ascii_bytes "@ 3928521600" ∷
    ascii_bytes "0 0x" ∷
    (0 ∷ []) ∷
    (ascii_bytes "2012-01 35" ++ (0 ∷ [])) ∷
    (239 ∷ (188 ∷ (146 ∷ (239 ∷ (188 ∷ (144 ∷ (239 ∷ (188 ∷ (145 ∷ (239 ∷ (188 ∷ (146 ∷ ascii_bytes "-01 35")))))))))))) ∷
    []

pub outside-lines : map line_says others ≡ replicate 44 K.Outside
unfolding others line_says line_from row_of row_behind month_row ntp_row row_with expiry_of last_number number_then ended first_digits behind_blanks line_blank
    is_digit month_from month_after month_days leap_size lengths
outside-lines = refl

-- ---- lines of every kind
unfoldable pub kinds : List (List ℕ)
kinds =
    [] ∷
    (ascii_bytes " " ++ (9 ∷ (13 ∷ []))) ∷
    ascii_bytes "# a comment" ∷
    ascii_bytes "#" ∷
    ascii_bytes "  # @" ∷
    ascii_bytes "2012-01 35" ∷
    (ascii_bytes " " ++ (9 ∷ (ascii_bytes "2012-01" ++ (9 ∷ (ascii_bytes " 35 " ++ (13 ∷ [])))))) ∷
    ascii_bytes "2012-01 35# made up" ∷
    ascii_bytes "9999-12 999999999" ∷
    ascii_bytes "0000-01 0" ∷
    ascii_bytes "2272060800 10" ∷
    (ascii_bytes "2272060800" ++ (9 ∷ (ascii_bytes "10" ++ (9 ∷ ascii_bytes "# 1 Jan 1972")))) ∷
    (13 ∷ (ascii_bytes " 3644697600 36" ++ (13 ∷ []))) ∷
    ascii_bytes "0 5#-" ∷
    ascii_bytes "255608611200 1" ∷
    ascii_bytes "#@ 3928521600" ∷
    (ascii_bytes "#@" ++ (9 ∷ ascii_bytes " 3928521601 # 28 June")) ∷
    (ascii_bytes "#@ 999999999999" ++ (13 ∷ [])) ∷
    []

pub kinds_read : map line_says kinds
    ≡ K.Blank ∷
    K.Blank ∷
    K.Blank ∷
    K.Blank ∷
    K.Blank ∷
    K.Row 24144 35 ∷
    K.Row 24144 35 ∷
    K.Row 24144 35 ∷
    K.Row 119999 999999999 ∷
    K.Row 0 0 ∷
    K.Row 23664 10 ∷
    K.Row 23664 10 ∷
    K.Row 24186 36 ∷
    K.Row 22800 5 ∷
    K.Row 119999 1 ∷
    K.Expiry 60489 ∷
    K.Expiry 60489 ∷
    K.Expiry 11589094 ∷
    []
unfolding kinds line_says line_from row_of row_behind month_row ntp_row row_with expiry_of last_number number_then ended first_digits behind_blanks line_blank
    is_digit month_from month_after month_days leap_size lengths
kinds_read = refl

-- ---- the library's own rows, in both forms
unfoldable pub month_lines : List (List ℕ)
month_lines =
    ascii_bytes "1972-01 10" ∷
    ascii_bytes "1972-07 11" ∷
    ascii_bytes "1973-01 12" ∷
    ascii_bytes "1974-01 13" ∷
    ascii_bytes "1975-01 14" ∷
    ascii_bytes "1976-01 15" ∷
    ascii_bytes "1977-01 16" ∷
    ascii_bytes "1978-01 17" ∷
    ascii_bytes "1979-01 18" ∷
    ascii_bytes "1980-01 19" ∷
    ascii_bytes "1981-07 20" ∷
    ascii_bytes "1982-07 21" ∷
    ascii_bytes "1983-07 22" ∷
    ascii_bytes "1985-07 23" ∷
    ascii_bytes "1988-01 24" ∷
    ascii_bytes "1990-01 25" ∷
    ascii_bytes "1991-01 26" ∷
    ascii_bytes "1992-07 27" ∷
    ascii_bytes "1993-07 28" ∷
    ascii_bytes "1994-07 29" ∷
    ascii_bytes "1996-01 30" ∷
    ascii_bytes "1997-07 31" ∷
    ascii_bytes "1999-01 32" ∷
    ascii_bytes "2006-01 33" ∷
    ascii_bytes "2009-01 34" ∷
    ascii_bytes "2012-07 35" ∷
    ascii_bytes "2015-07 36" ∷
    ascii_bytes "2017-01 37" ∷
    []

unfoldable pub ntp_lines : List (List ℕ)
ntp_lines =
    (ascii_bytes "2272060800" ++ (9 ∷ (ascii_bytes "10" ++ (9 ∷ ascii_bytes "# 1 Jan 1972")))) ∷
    (ascii_bytes "2287785600" ++ (9 ∷ (ascii_bytes "11" ++ (9 ∷ ascii_bytes "# 1 Jul 1972")))) ∷
    (ascii_bytes "2303683200" ++ (9 ∷ (ascii_bytes "12" ++ (9 ∷ ascii_bytes "# 1 Jan 1973")))) ∷
    (ascii_bytes "2335219200" ++ (9 ∷ (ascii_bytes "13" ++ (9 ∷ ascii_bytes "# 1 Jan 1974")))) ∷
    (ascii_bytes "2366755200" ++ (9 ∷ (ascii_bytes "14" ++ (9 ∷ ascii_bytes "# 1 Jan 1975")))) ∷
    (ascii_bytes "2398291200" ++ (9 ∷ (ascii_bytes "15" ++ (9 ∷ ascii_bytes "# 1 Jan 1976")))) ∷
    (ascii_bytes "2429913600" ++ (9 ∷ (ascii_bytes "16" ++ (9 ∷ ascii_bytes "# 1 Jan 1977")))) ∷
    (ascii_bytes "2461449600" ++ (9 ∷ (ascii_bytes "17" ++ (9 ∷ ascii_bytes "# 1 Jan 1978")))) ∷
    (ascii_bytes "2492985600" ++ (9 ∷ (ascii_bytes "18" ++ (9 ∷ ascii_bytes "# 1 Jan 1979")))) ∷
    (ascii_bytes "2524521600" ++ (9 ∷ (ascii_bytes "19" ++ (9 ∷ ascii_bytes "# 1 Jan 1980")))) ∷
    (ascii_bytes "2571782400" ++ (9 ∷ (ascii_bytes "20" ++ (9 ∷ ascii_bytes "# 1 Jul 1981")))) ∷
    (ascii_bytes "2603318400" ++ (9 ∷ (ascii_bytes "21" ++ (9 ∷ ascii_bytes "# 1 Jul 1982")))) ∷
    (ascii_bytes "2634854400" ++ (9 ∷ (ascii_bytes "22" ++ (9 ∷ ascii_bytes "# 1 Jul 1983")))) ∷
    (ascii_bytes "2698012800" ++ (9 ∷ (ascii_bytes "23" ++ (9 ∷ ascii_bytes "# 1 Jul 1985")))) ∷
    (ascii_bytes "2776982400" ++ (9 ∷ (ascii_bytes "24" ++ (9 ∷ ascii_bytes "# 1 Jan 1988")))) ∷
    (ascii_bytes "2840140800" ++ (9 ∷ (ascii_bytes "25" ++ (9 ∷ ascii_bytes "# 1 Jan 1990")))) ∷
    (ascii_bytes "2871676800" ++ (9 ∷ (ascii_bytes "26" ++ (9 ∷ ascii_bytes "# 1 Jan 1991")))) ∷
    (ascii_bytes "2918937600" ++ (9 ∷ (ascii_bytes "27" ++ (9 ∷ ascii_bytes "# 1 Jul 1992")))) ∷
    (ascii_bytes "2950473600" ++ (9 ∷ (ascii_bytes "28" ++ (9 ∷ ascii_bytes "# 1 Jul 1993")))) ∷
    (ascii_bytes "2982009600" ++ (9 ∷ (ascii_bytes "29" ++ (9 ∷ ascii_bytes "# 1 Jul 1994")))) ∷
    (ascii_bytes "3029443200" ++ (9 ∷ (ascii_bytes "30" ++ (9 ∷ ascii_bytes "# 1 Jan 1996")))) ∷
    (ascii_bytes "3076704000" ++ (9 ∷ (ascii_bytes "31" ++ (9 ∷ ascii_bytes "# 1 Jul 1997")))) ∷
    (ascii_bytes "3124137600" ++ (9 ∷ (ascii_bytes "32" ++ (9 ∷ ascii_bytes "# 1 Jan 1999")))) ∷
    (ascii_bytes "3345062400" ++ (9 ∷ (ascii_bytes "33" ++ (9 ∷ ascii_bytes "# 1 Jan 2006")))) ∷
    (ascii_bytes "3439756800" ++ (9 ∷ (ascii_bytes "34" ++ (9 ∷ ascii_bytes "# 1 Jan 2009")))) ∷
    (ascii_bytes "3550089600" ++ (9 ∷ (ascii_bytes "35" ++ (9 ∷ ascii_bytes "# 1 Jul 2012")))) ∷
    (ascii_bytes "3644697600" ++ (9 ∷ (ascii_bytes "36" ++ (9 ∷ ascii_bytes "# 1 Jul 2015")))) ∷
    (ascii_bytes "3692217600" ++ (9 ∷ (ascii_bytes "37" ++ (9 ∷ ascii_bytes "# 1 Jan 2017")))) ∷
    []

-- the number of a text's refusal, its line, its rows and its expiry
abbrev pub fields_of : ListAnswer → List ℕ
fields_of r = r.number ∷ r.line ∷ r.table.months_size ∷ r.known_until ∷ []

-- 28 rows that the library has: no row is lent
pub own-months : fields_of (read_of (lines_text month_lines)) ≡ 0 ∷ 0 ∷ 0 ∷ 0 ∷ []
unfolding month_lines read_of read_from lines_of on_first lines_text none_held line_fault with_line later_fault library_row seconds_from whole_seconds fixed
    reached month_number answered refused_at line_says line_from row_of row_behind month_row ntp_row row_with expiry_of last_number number_then ended
    first_digits behind_blanks line_blank is_digit month_from month_after month_days leap_size lengths
own-months = refl

-- the IERS's form says the same, line by line
pub own-ntp : map line_says (lines_of (lines_text ntp_lines)) ≡ map line_says month_lines
unfolding month_lines ntp_lines read_of read_from lines_of on_first lines_text none_held line_fault with_line later_fault library_row seconds_from whole_seconds
    fixed
    reached month_number answered refused_at line_says line_from row_of row_behind month_row ntp_row row_with expiry_of last_number number_then ended
    first_digits behind_blanks line_blank is_digit month_from month_after month_days leap_size lengths
own-ntp = refl

-- ---- rows behind the last that the library has, whatever that is: their lines are written by `month_line`
-- the line of a row that begins so many months after the last
abbrev later : ℕ → ℕ → List ℕ
later months seconds = month_line (last_month + months) seconds

-- n lines, each of a year and a second more, from `from` years and seconds after the last
abbrev yearly : ℕ → ℕ → List (List ℕ)
yearly zero from = []
yearly (suc n) from = later (12 * from) (last_seconds + from) ∷ yearly n (suc from)

-- one row behind the library's own
pub one_more : fields_of (read_of (lines_text (month_lines ++ (later 120 (last_seconds + 1) ∷ [])))) ≡ 0 ∷ 0 ∷ 1 ∷ 0 ∷ []
unfolding month_lines read_of read_from lines_of on_first lines_text none_held line_fault with_line later_fault library_row seconds_from whole_seconds fixed
    reached month_number answered refused_at line_says line_from row_of row_behind month_row ntp_row row_with expiry_of last_number number_then ended
    first_digits behind_blanks line_blank is_digit month_from month_after month_days leap_size lengths month_line last_digits digits_of digits_in
one_more = refl

pub no_text : fields_of (read_of ([])) ≡ 0 ∷ 0 ∷ 0 ∷ 0 ∷ []
unfolding read_of read_from lines_of on_first lines_text none_held line_fault with_line later_fault library_row seconds_from whole_seconds fixed reached
    month_number answered refused_at line_says line_from row_of row_behind month_row ntp_row row_with expiry_of last_number number_then ended first_digits
    behind_blanks line_blank is_digit month_from month_after month_days leap_size lengths
no_text = refl

-- the expiry of the list that ends on 2026-12-28
pub with-expiry : fields_of
    (read_of
    (lines_text
    ((ascii_bytes "#$" ++ (9 ∷ ascii_bytes "3676924800")) ∷ (ascii_bytes "#@" ++ (9 ∷ ascii_bytes "3991420800"))
    ∷ (ascii_bytes "3692217600" ++ (9 ∷ ascii_bytes "37")) ∷ [])))
    ≡ 0 ∷ 0 ∷ 0 ∷ 61217 ∷ []
unfolding read_of read_from lines_of on_first lines_text none_held line_fault with_line later_fault library_row seconds_from whole_seconds fixed reached
    month_number answered refused_at line_says line_from row_of row_behind month_row ntp_row row_with expiry_of last_number number_then ended first_digits
    behind_blanks line_blank is_digit month_from month_after month_days leap_size lengths
with-expiry = refl

-- of two expiries the last
pub last-expiry : fields_of (read_of (lines_text (ascii_bytes "#@ 3991420800" ∷ ascii_bytes "#@ 3991507200" ∷ []))) ≡ 0 ∷ 0 ∷ 0 ∷ 61218 ∷ []
unfolding read_of read_from lines_of on_first lines_text none_held line_fault with_line later_fault library_row seconds_from whole_seconds fixed reached
    month_number answered refused_at line_says line_from row_of row_behind month_row ntp_row row_with expiry_of last_number number_then ended first_digits
    behind_blanks line_blank is_digit month_from month_after month_days leap_size lengths
last-expiry = refl

-- the first fault in the text's order: line 2 is outside the grammar, line 3 goes by two seconds
pub not_a_line : fields_of (read_of (lines_text (later 120 (last_seconds + 1) ∷ ascii_bytes "2028-01" ∷ later 144 (last_seconds + 3) ∷ [])))
    ≡ 15 ∷ 2 ∷ 0 ∷ 0 ∷ []
unfolding read_of read_from lines_of on_first lines_text none_held line_fault with_line later_fault library_row seconds_from whole_seconds fixed reached
    month_number answered refused_at line_says line_from row_of row_behind month_row ntp_row row_with expiry_of last_number number_then ended first_digits
    behind_blanks line_blank is_digit month_from month_after month_days leap_size lengths month_line last_digits digits_of digits_in
not_a_line = refl

-- a row of the library's with other seconds
pub other_own_seconds : fields_of (read_of (lines_text (ascii_bytes "1972-01 10" ∷ ascii_bytes "1972-07 12" ∷ []))) ≡ 22 ∷ 2 ∷ 0 ∷ 0 ∷ []
unfolding read_of read_from lines_of on_first lines_text none_held line_fault with_line later_fault library_row seconds_from whole_seconds fixed reached
    month_number answered refused_at line_says line_from row_of row_behind month_row ntp_row row_with expiry_of last_number number_then ended first_digits
    behind_blanks line_blank is_digit month_from month_after month_days leap_size lengths
other_own_seconds = refl

-- a month in which the library has no row
pub other_own_month : fields_of (read_of (lines_text ([] ∷ ascii_bytes "2016-07 36" ∷ []))) ≡ 22 ∷ 2 ∷ 0 ∷ 0 ∷ []
unfolding read_of read_from lines_of on_first lines_text none_held line_fault with_line later_fault library_row seconds_from whole_seconds fixed reached
    month_number answered refused_at line_says line_from row_of row_behind month_row ntp_row row_with expiry_of last_number number_then ended first_digits
    behind_blanks line_blank is_digit month_from month_after month_days leap_size lengths
other_own_month = refl

pub before-1972 : fields_of (read_of (lines_text (ascii_bytes "1971-12 10" ∷ []))) ≡ 22 ∷ 1 ∷ 0 ∷ 0 ∷ []
unfolding read_of read_from lines_of on_first lines_text none_held line_fault with_line later_fault library_row seconds_from whole_seconds fixed reached
    month_number answered refused_at line_says line_from row_of row_behind month_row ntp_row row_with expiry_of last_number number_then ended first_digits
    behind_blanks line_blank is_digit month_from month_after month_days leap_size lengths
before-1972 = refl

pub not_rising : fields_of (read_of (lines_text (later 120 (last_seconds + 1) ∷ later 120 (last_seconds + 2) ∷ []))) ≡ 21 ∷ 2 ∷ 0 ∷ 0 ∷ []
unfolding read_of read_from lines_of on_first lines_text none_held line_fault with_line later_fault library_row seconds_from whole_seconds fixed reached
    month_number answered refused_at line_says line_from row_of row_behind month_row ntp_row row_with expiry_of last_number number_then ended first_digits
    behind_blanks line_blank is_digit month_from month_after month_days leap_size lengths month_line last_digits digits_of digits_in
not_rising = refl

pub two-seconds : fields_of (read_of (lines_text (later 120 (last_seconds + 1) ∷ later 126 (last_seconds + 3) ∷ []))) ≡ 22 ∷ 2 ∷ 0 ∷ 0 ∷ []
unfolding read_of read_from lines_of on_first lines_text none_held line_fault with_line later_fault library_row seconds_from whole_seconds fixed reached
    month_number answered refused_at line_says line_from row_of row_behind month_row ntp_row row_with expiry_of last_number number_then ended first_digits
    behind_blanks line_blank is_digit month_from month_after month_days leap_size lengths month_line last_digits digits_of digits_in
two-seconds = refl

pub one_less : fields_of (read_of (lines_text (later 120 (last_seconds - 1) ∷ later 126 (last_seconds - 2) ∷ []))) ≡ 0 ∷ 0 ∷ 2 ∷ 0 ∷ []
unfolding read_of read_from lines_of on_first lines_text none_held line_fault with_line later_fault library_row seconds_from whole_seconds fixed reached
    month_number answered refused_at line_says line_from row_of row_behind month_row ntp_row row_with expiry_of last_number number_then ended first_digits
    behind_blanks line_blank is_digit month_from month_after month_days leap_size lengths month_line last_digits digits_of digits_in
one_less = refl

pub sixteen : fields_of (read_of (lines_text (yearly 16 1))) ≡ 0 ∷ 0 ∷ 16 ∷ 0 ∷ []
unfolding read_of read_from lines_of on_first lines_text none_held line_fault with_line later_fault library_row seconds_from whole_seconds fixed reached
    month_number answered refused_at line_says line_from row_of row_behind month_row ntp_row row_with expiry_of last_number number_then ended first_digits
    behind_blanks line_blank is_digit month_from month_after month_days leap_size lengths month_line last_digits digits_of digits_in
sixteen = refl

-- 20 comes before 21 and 22
pub seventeen : fields_of (read_of (lines_text (yearly 16 1 ++ (later 12 (last_seconds + 99) ∷ [])))) ≡ 20 ∷ 17 ∷ 0 ∷ 0 ∷ []
unfolding read_of read_from lines_of on_first lines_text none_held line_fault with_line later_fault library_row seconds_from whole_seconds fixed reached
    month_number answered refused_at line_says line_from row_of row_behind month_row ntp_row row_with expiry_of last_number number_then ended first_digits
    behind_blanks line_blank is_digit month_from month_after month_days leap_size lengths month_line last_digits digits_of digits_in
seventeen = refl

-- 21 comes before 22
pub rising-first : fields_of (read_of (lines_text (later 120 (last_seconds + 1) ∷ later 108 (last_seconds + 99) ∷ []))) ≡ 21 ∷ 2 ∷ 0 ∷ 0 ∷ []
unfolding read_of read_from lines_of on_first lines_text none_held line_fault with_line later_fault library_row seconds_from whole_seconds fixed reached
    month_number answered refused_at line_says line_from row_of row_behind month_row ntp_row row_with expiry_of last_number number_then ended first_digits
    behind_blanks line_blank is_digit month_from month_after month_days leap_size lengths month_line last_digits digits_of digits_in
rising-first = refl

-- a row of the library's may stand behind a later one
pub own-behind-later : fields_of (read_of (lines_text (later 120 (last_seconds + 1) ∷ ascii_bytes "2017-01 37" ∷ []))) ≡ 0 ∷ 0 ∷ 1 ∷ 0 ∷ []
unfolding read_of read_from lines_of on_first lines_text none_held line_fault with_line later_fault library_row seconds_from whole_seconds fixed reached
    month_number answered refused_at line_says line_from row_of row_behind month_row ntp_row row_with expiry_of last_number number_then ended first_digits
    behind_blanks line_blank is_digit month_from month_after month_days leap_size lengths month_line last_digits digits_of digits_in
own-behind-later = refl

-- the rows that are read, place by place
pub two-rows : ((read_of (lines_text (later 120 (last_seconds + 1) ∷ later 162 last_seconds ∷ []))).table.months
    ≡ pos (last_month + 120) ∷ pos (last_month + 162) ∷ replicate 14 (pos 0))
    × ((read_of (lines_text (later 120 (last_seconds + 1) ∷ later 162 last_seconds ∷ []))).table.seconds
    ≡ pos (last_seconds + 1) ∷ pos last_seconds ∷ replicate 14 (pos 0))
unfolding read_of read_from lines_of on_first lines_text none_held line_fault with_line later_fault library_row seconds_from whole_seconds fixed reached
    month_number
    answered refused_at line_says line_from row_of row_behind month_row ntp_row row_with expiry_of last_number number_then ended first_digits behind_blanks
    line_blank is_digit month_from month_after month_days leap_size lengths month_line last_digits digits_of digits_in
two-rows = (refl, refl)

-- ---- what the library has: each row of the table from 1972 on, and no other month between two of them
abbrev pub month-and-seconds : List Row → Bool
month-and-seconds [] = true
month-and-seconds (r ∷ rs) = library_row r.month (r.units / 10000000) && month-and-seconds rs

-- the months among `most` from m on in which a row begins
abbrev pub begun : ℕ → ℕ → List ℕ
begun zero m = []
begun (suc most) m = cond (library_row m (seconds_from m)) (m ∷ begun most (m + 1)) (begun most (m + 1))

pub own-rows : month-and-seconds (drop 14 fixed) ≡ true
unfolding library_row seconds_from whole_seconds fixed reached month_number
own-rows = refl

-- from July 2015, place 40, to January 2017, place 41: no month between them
abbrev start : ℕ → ℕ
start i = (get_or fixed i none).month

pub no_other_rows : begun (suc (start 41 - start 40)) (start 40) ≡ start 40 ∷ start 41 ∷ []
unfolding library_row seconds_from whole_seconds fixed reached month_number
no_other_rows = refl
