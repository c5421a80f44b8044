-- Closed cases of the reader: texts outside the grammar, each refused by 15; the places at which one byte more may stand in a text; the six fields of texts
-- with every kind of fraction. Computed. Assumes nothing.
use mathlib.Core.Path.{◌≡◌, refl}
use mathlib.Core.Bool.{Bool, true, false, cond}
use mathlib.Core.List.{List, [], ◌∷◌, ◌++◌, map}
use Prim.Native.Nat.{ℕ, suc}
use lib.ListN.{length, take, drop, replicate}
use lib.IntN.{pos}
use lib.Ieee.{Float}
use Rattle.refusals.specs.Outcome.{Outcome, answer, refusal, onward}
use Rattle.numerals.specs.digits.Decimal.{is_digit}
use Rattle.constants.specs.Constants.{decimal}
use Rattle.calendar.specs.Calendar.{leap_size, lengths, days_in_month}
use Rattle.calendar.specs.Refusals.{valid_date}
use Rattle.utc.specs.text.Ascii.{ascii_bytes}
use Rattle.parsing.specs.declared.ParsedDateTime.{ParsedDateTime}
use Rattle.parsing.specs.scan.Written.{Written}
use Rattle.parsing.specs.scan.Form.{is_blank, after_blanks, two_digits, digit_says, date_right, is_separator, time_right, leading, fraction_digits}
use Rattle.parsing.specs.scan.Form.{after_fraction}
use Rattle.parsing.specs.scan.Form.{end_right, right_form, says, form_of}
use Rattle.parsing.specs.Parsed.{time_fits, judged, parsed}

-- ---- texts outside the grammar
unfoldable pub missing : List (List ℕ)
missing =
    ascii_bytes "" ∷
    ascii_bytes " " ∷
    ascii_bytes "Z" ∷
    ascii_bytes "2016-12-31" ∷
    ascii_bytes "2016-12-31Z" ∷
    ascii_bytes "2016-12-31T23:59" ∷
    ascii_bytes "2016-12-31T23:59Z" ∷
    ascii_bytes "T23:59:60.5Z" ∷
    ascii_bytes "23:59:60.5Z" ∷
    ascii_bytes "2016-12T23:59:60.5Z" ∷
    ascii_bytes "2016-366T23:59:60.5Z" ∷
    ascii_bytes "2016-W52-6T23:59:60.5Z" ∷
    ascii_bytes "20161231T235960.5Z" ∷
    ascii_bytes "16-12-31T23:59:60.5Z" ∷
    ascii_bytes "2016-1-31T23:59:60.5Z" ∷
    ascii_bytes "2016-12-1T23:59:60.5Z" ∷
    ascii_bytes "2016-12-31T3:59:60.5Z" ∷
    ascii_bytes "2016-12-31T23:9:60.5Z" ∷
    ascii_bytes "2016-12-31T23:59:6.5Z" ∷
    ascii_bytes "2016-12-31T23:59:60.Z" ∷
    ascii_bytes "2016-12-31T23:59:60." ∷
    []

unfoldable pub others : List (List ℕ)
others =
    ascii_bytes "2016-12-31t23:59:60.5Z" ∷
    ascii_bytes "2016-12-31T23:59:60.5z" ∷
    ascii_bytes "2016-12-31_23:59:60.5Z" ∷
    (ascii_bytes "2016-12-31" ++ (9 ∷ ascii_bytes "23:59:60.5Z")) ∷
    ascii_bytes "2016/12/31T23:59:60.5Z" ∷
    ascii_bytes "2016:12:31T23:59:60.5Z" ∷
    ascii_bytes "2016-12-31T23-59-60.5Z" ∷
    ascii_bytes "2016-12-31T23.59.60.5Z" ∷
    ascii_bytes "2016-12-31T23:59:60,5Z" ∷
    ascii_bytes "2016-12-31T23:59:60:5Z" ∷
    ascii_bytes "2016-12-31T23:59:6O.5Z" ∷
    ascii_bytes "2016-12-31T23:59:60.5e0Z" ∷
    ascii_bytes "2016-12-31T23:59:60.5_5Z" ∷
    ascii_bytes "2016-12-31T23:59:60.5+00:00" ∷
    ascii_bytes "2016-12-31T23:59:60.5-00:00" ∷
    ascii_bytes "2016-12-31T23:59:60.5+00" ∷
    ascii_bytes "2016-12-31T23:59:60.5UTC" ∷
    ascii_bytes "+2016-12-31T23:59:60.5Z" ∷
    ascii_bytes "-2016-12-31T23:59:60.5Z" ∷
    ascii_bytes "+0002016-12-31T23:59:60.5Z" ∷
    ascii_bytes "12016-12-31T23:59:60.5Z" ∷
    ascii_bytes "2016-12-31T23:59:60.5Z 2016-12-31T23:59:60.5Z" ∷
    []

pub missing_fields : map (parsed true) missing ≡ replicate 21 (refusal 15)
unfolding missing parsed onward form_of right_form end_right after_fraction fraction_digits leading time_right is_separator date_right two_digits after_blanks
    is_blank
    is_digit
missing_fields = refl

pub other_bytes : map (parsed true) others ≡ replicate 22 (refusal 15)
unfolding others parsed onward form_of right_form end_right after_fraction fraction_digits leading time_right is_separator date_right two_digits after_blanks
    is_blank
    is_digit says digit_says judged time_fits valid_date days_in_month lengths leap_size
other_bytes = refl

-- a Z is read in UTC alone, and right behind the second
pub no_zulu : parsed false (ascii_bytes "2016-12-31T23:59:60.5Z") ≡ refusal 15
unfolding parsed onward form_of right_form end_right after_fraction fraction_digits leading time_right is_separator date_right two_digits after_blanks is_blank
    is_digit
    says digit_says judged time_fits valid_date days_in_month lengths leap_size
no_zulu = refl

pub no_tab : parsed true (ascii_bytes "2016-12-31T23:59:60.5" ++ (9 ∷ ascii_bytes "Z")) ≡ refusal 15
unfolding parsed onward form_of right_form end_right after_fraction fraction_digits leading time_right is_separator date_right two_digits after_blanks is_blank
    is_digit
    says digit_says judged time_fits valid_date days_in_month lengths leap_size
no_tab = refl

-- ---- one byte more: the places from i on, n of them, at which the text with the byte put there has the right form
unfoldable pub within : Outcome Written → Bool
within (answer w) = true
within (refusal k) = false

unfoldable pub places_from : ℕ → ℕ → List ℕ → ℕ → List ℕ
places_from ℕ.zero i t byte = []
places_from (ℕ.suc n) i t byte =
    cond (within (form_of true (take i t ++ (byte ∷ drop i t)))) (i ∷ places_from n (suc i) t byte) (places_from n (suc i) t byte)

abbrev places : List ℕ → ℕ → List ℕ
places t byte = places_from (suc (length t)) 0 t byte

abbrev blanks : List ℕ
blanks = 9 ∷ 10 ∷ 11 ∷ 12 ∷ 13 ∷ 32 ∷ []

-- the bytes of a text's marks and letters, those beside a blank, a digit or one of them, and the ends: 0, 8, 14, 31, '!', '+', ',', '-', '.', '/', ':', ';',
-- 'T', 'Y', 'Z', '[', 't', 'z', 127, 133, 160, 255
abbrev marks : List ℕ
marks = 0 ∷ 8 ∷ 14 ∷ 31 ∷ 33 ∷ 43 ∷ 44 ∷ 45 ∷ 46 ∷ 47 ∷ 58 ∷ 59 ∷ 84 ∷ 89 ∷ 90 ∷ 91 ∷ 116 ∷ 122 ∷ 127 ∷ 133 ∷ 160 ∷ 255 ∷ []

abbrev tenth : List ℕ
tenth = ascii_bytes "2016-12-31T23:59:60.5Z"

abbrev whole : List ℕ
whole = ascii_bytes "2016-12-31 23:59:60Z"

-- a blank goes in front or behind
pub blank_more : map (places tenth) blanks ≡ replicate 6 (0 ∷ 22 ∷ [])
unfolding places_from within form_of right_form end_right after_fraction fraction_digits leading time_right is_separator date_right two_digits after_blanks
    is_blank is_digit
    says
blank_more = refl

-- a digit into the fraction
pub digit_more : map (places tenth) (48 ∷ 53 ∷ 57 ∷ []) ≡ replicate 3 (20 ∷ 21 ∷ [])
unfolding places_from within form_of right_form end_right after_fraction fraction_digits leading time_right is_separator date_right two_digits after_blanks
    is_blank is_digit
    says
digit_more = refl

-- and no mark anywhere
pub mark_more : map (places tenth) marks ≡ replicate 22 []
unfolding places_from within form_of right_form end_right after_fraction fraction_digits leading time_right is_separator date_right two_digits after_blanks
    is_blank is_digit
    says
mark_more = refl

pub blank_more_whole : map (places whole) blanks ≡ replicate 6 (0 ∷ 20 ∷ [])
unfolding places_from within form_of right_form end_right after_fraction fraction_digits leading time_right is_separator date_right two_digits after_blanks
    is_blank is_digit
    says
blank_more_whole = refl

-- where there is no fraction, no digit either
pub mark_more_whole : map (places whole) (48 ∷ 53 ∷ 57 ∷ marks) ≡ replicate 25 []
unfolding places_from within form_of right_form end_right after_fraction fraction_digits leading time_right is_separator date_right two_digits after_blanks
    is_blank is_digit
    says
mark_more_whole = refl

-- ---- the six fields: the digits of second and fraction are one whole number, divided once by its power of ten
abbrev fields : Float → ParsedDateTime
fields s = record { year = pos 2016; month = 12; day = 31; hour = 23; minute = 59; second = s }

pub no_fraction : parsed true (ascii_bytes "2016-12-31T23:59:60") ≡ answer (fields (decimal 60 0))
unfolding parsed onward form_of right_form end_right after_fraction fraction_digits leading time_right is_separator date_right two_digits after_blanks is_blank
    is_digit
    says digit_says judged time_fits valid_date days_in_month lengths leap_size
no_fraction = refl

pub tenths : parsed true (ascii_bytes "2016-12-31 23:59:60.5Z") ≡ answer (fields (decimal 605 1))
unfolding parsed onward form_of right_form end_right after_fraction fraction_digits leading time_right is_separator date_right two_digits after_blanks is_blank
    is_digit
    says digit_says judged time_fits valid_date days_in_month lengths leap_size
tenths = refl

pub ten-digits : parsed true (ascii_bytes "2016-12-31T23:59:60.1234567891Z") ≡ answer (fields (decimal 601234567891 10))
unfolding parsed onward form_of right_form end_right after_fraction fraction_digits leading time_right is_separator date_right two_digits after_blanks is_blank
    is_digit
    says digit_says judged time_fits valid_date days_in_month lengths leap_size
ten-digits = refl

pub thirteen_digits : parsed true (ascii_bytes "2016-12-31T23:59:59.1234567890123Z") ≡ answer (fields (decimal 591234567890123 13))
unfolding parsed onward form_of right_form end_right after_fraction fraction_digits leading time_right is_separator date_right two_digits after_blanks is_blank
    is_digit
    says digit_says judged time_fits valid_date days_in_month lengths leap_size
thirteen_digits = refl

pub fourteen_digits : parsed true (ascii_bytes "2016-12-31T23:59:59.12345678901234Z") ≡ refusal 16
unfolding parsed onward form_of right_form end_right after_fraction fraction_digits leading time_right is_separator date_right two_digits after_blanks is_blank
    is_digit
    says digit_says judged time_fits valid_date days_in_month lengths leap_size
fourteen_digits = refl
