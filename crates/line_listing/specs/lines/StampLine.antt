-- The line of a stamp in the listing of three recorders, a list of bytes. Written from the comment at the head of programs/line_up.c: "each stamp of each run
-- has one line: its recorder, its index in its run, counted from 0, and what is told of it". An ordered stamp, of number 0, has the UTC text of its TAI, with
-- expanded years, or `no text` and a number; the others have `refused` and theirs. Where sentences are asked for, a colon and the number's sentence follow the
-- number, by the parts as they were recorded, and of a stamp without text by those of its TAI or, where it has one, its UTC. Assumes nothing.
use Rattle.std.specs.Prelude.{ℕ, ◌-◌, ◌*◌, Bool, cond, List, [], ◌∷◌, ◌++◌, ◌==◌, nat_lt, slice_index}
use Rattle.refusals.specs.Outcome.{Outcome, answer, refusal, onward}
use Rattle.numerals.specs.digits.Decimal.{digits_of}
use Rattle.numerals.specs.little_endian.LittleEndian.{u32_at}
use Rattle.julian.specs.declared.JulianDate.{JulianDate}
use Rattle.julian.specs.stamp_lists.Stamps.{stamp_of}
use Rattle.leap_table.specs.rows.Table.{Row}
use Rattle.utc_scales.specs.UtcTai.{tai_to_utc}
use Rattle.utc.specs.text.Ascii.{ascii_bytes}
use Rattle.utc.specs.iso_texts.Expanded.{iso_text_expanded}
use Rattle.reasons.specs.declared.Values.TheVariants.{Parts}
use Rattle.reasons.specs.Sentence.{sentence}
use Rattle.stamps.specs.Listing.{one_if_refused}

-- ---- the stamps of the three runs, one run after the other: eight bytes for each part, one for each number; the runs end at `first` and `first + second`
pub record Stamps : Type 0 where
  pub jd1s : List ℕ
  pub jd2s : List ℕ
  pub numbers : List ℕ
  pub first : ℕ
  pub second : ℕ

abbrev pub stamps : List ℕ → List ℕ → List ℕ → ℕ → ℕ → Stamps
stamps js ks ns first second = record { jd1s = js; jd2s = ks; numbers = ns; first = first; second = second }

-- the date at a place, and its number: 0, or why it is not ordered. What the lists do not have is 0
abbrev pub date_of_place : Stamps → ℕ → JulianDate
date_of_place all p = stamp_of all.jd1s all.jd2s p

abbrev pub number_of_place : Stamps → ℕ → ℕ
number_of_place all p = slice_index all.numbers p

-- ---- its recorder, and its index in its run
unfoldable pub recorder : ℕ → ℕ → ℕ → List ℕ
recorder first second p = cond (nat_lt p first) (ascii_bytes "gps ") (cond (nat_lt (p - first) second) (ascii_bytes "tai ") (ascii_bytes "utc "))

unfoldable pub index_in : ℕ → ℕ → ℕ → ℕ
index_in first second p = cond (nat_lt p first) p (cond (nat_lt (p - first) second) (p - first) (p - first - second))

-- ---- a number, and behind it its sentence where sentences are asked for and it has one
unfoldable pub as_sentence : Outcome (List ℕ) → List ℕ
as_sentence (answer t) = ascii_bytes ": " ++ t
as_sentence (refusal k) = []

unfoldable pub sentence_behind : Bool → ℕ → JulianDate → List ℕ
sentence_behind sentences k d = cond sentences (as_sentence (sentence k (Parts d.jd1 d.jd2))) []

unfoldable pub number_told : Bool → ℕ → JulianDate → List ℕ
number_told sentences k d = digits_of k ++ sentence_behind sentences k d

unfoldable pub no_text : Bool → ℕ → JulianDate → List ℕ
no_text sentences k d = ascii_bytes "no text " ++ number_told sentences k d

unfoldable pub refused : Bool → ℕ → JulianDate → List ℕ
refused sentences k d = ascii_bytes "refused " ++ number_told sentences k d

-- ---- what is told of an ordered stamp: the text of its UTC, or that there is none
unfoldable pub text_told : Bool → JulianDate → Outcome (List ℕ) → List ℕ
text_told sentences utc (answer t) = t
text_told sentences utc (refusal k) = no_text sentences k utc

unfoldable pub utc_told : Bool → List Row → JulianDate → Outcome JulianDate → List ℕ
utc_told sentences rows tai (answer utc) = text_told sentences utc (iso_text_expanded rows utc)
utc_told sentences rows tai (refusal k) = no_text sentences k tai

-- what is told of a stamp with this date and this number
unfoldable pub stamp_told : Bool → List Row → JulianDate → ℕ → List ℕ
stamp_told sentences rows d k = cond (k == 0) (utc_told sentences rows d (tai_to_utc rows d)) (refused sentences k d)

-- ---- the line of the stamp with this date and this number at a place
unfoldable pub line_by : Bool → List Row → ℕ → ℕ → ℕ → JulianDate → ℕ → List ℕ
line_by sentences rows first second p d k =
    (((recorder first second p ++ digits_of (index_in first second p)) ++ (32 ∷ [])) ++ stamp_told sentences rows d k) ++ (10 ∷ [])

unfoldable pub place_line : Bool → List Row → Stamps → ℕ → List ℕ
place_line sentences rows all p = line_by sentences rows all.first all.second p (date_of_place all p) (number_of_place all p)

-- 1 where it is ordered and has no text, else 0
unfoldable pub no_text_count : List Row → JulianDate → ℕ → ℕ
no_text_count rows d k = cond (k == 0) (one_if_refused (onward (tai_to_utc rows d) (iso_text_expanded rows))) 0

-- ---- the place of the stamp of line i, by the order that is lent: four bytes for each line
abbrev pub line_in_order : List ℕ → ℕ → ℕ
line_in_order order i = u32_at order (4 * i)
