-- A line has at most 33 bytes where numbers are reported, and there is one of 33: a block of 1,001 stamps of two zeros is taken, and the line of its last stamp
-- has four digits, a blank, a text of 27 bytes of the year -4713 and the line's end. Where sentences are reported a line has at most 64 (`reported-line-most`
-- in Sentences), and there is one of 64: an input whose length has 20 digits is refused by 14, and names its length. Assumes nothing.
use Prim.Native.Nat.{ℕ, zero, suc, ◌<◌, ◌≤◌}
use native.Mathlib.Omega.{arith}
use mathlib.Core.Path.{◌≡◌, refl, ap, ◌∙◌}
use mathlib.Core.Bool.{false}
use mathlib.Core.List.{List, [], ◌∷◌}
use lib.ListN.{length, get_or, replicate, length-append, length-replicate}
use lib.IntN.{pos, negsuc}
use lib.Signed.{lt_z}
use lib.Ieee.{Float, binary64, of_bits, round, of_int, add, sub, div, neg, lt, le, eq, to_signed}
use lib.Dec.{lit<}
use Rattle.refusals.specs.Outcome.{answer, refusal, onward}
use Rattle.numerals.specs.little_endian.LittleEndian.{four_at, u32_at, u64_at}
use Rattle.numerals.specs.digits.Decimal.{digits_in}
use Rattle.floats.specs.Whole.{abs, to_whole, nearest_int}
use Rattle.calendar.specs.declared.CalendarDate.{CalendarDate}
use Rattle.calendar.specs.Calendar.{date, next, leap_size, lengths, days_in_month}
use Rattle.calendar.specs.Refusals.{valid_date}
use Rattle.calendar.specs.Gregorian.{gregorian_date}
use Rattle.calendar.proofs.Years.{valid_of}
use Rattle.julian.specs.day_number.DayNumber.{day_of}
use Rattle.julian.specs.day_number.Answer.{day_number_and_fraction}
use Rattle.julian.specs.JulianDate.{julian}
use Rattle.julian.specs.Calendar.{fields, julian_to_calendar}
use Rattle.julian.proofs.laws.Divisions.{divided_date, divided-date}
use Rattle.leap_table.specs.rows.Table.{Row}
use Rattle.time_of_day.specs.declared.TimeShown.{TimeShown}
use Rattle.time_of_day.specs.declared.TimeShown.TheVariants.{At, NextMidnight}
use Rattle.time_of_day.specs.TimeShown.{shown_by}
use Rattle.utc.specs.text.Expanded.{expanded_year, expanded_text}
use Rattle.utc.specs.iso_texts.Expanded.{expanded_form, iso_text_expanded}
use Rattle.utc.proofs.iso_texts.TextCalls.{fields-given-by}
use Rattle.utc.proofs.laws.DayTexts.{text_by, leap_on, has-text-by}
use Rattle.reasons.specs.sentences.Texts.{texts, fixed_text}
use Rattle.reasons.specs.Offending.{offending, block_field}
use Rattle.reasons.specs.sentences.Render.{named_text, render}
use Rattle.stamps.specs.declared.Reporting.TheVariants.{Numbers, Sentences}
use Rattle.stamps.specs.Block.{block_of, jd1_bits, jd2_bits, stamp_at}
use Rattle.stamps.specs.Listing.{line_room, reported, came, text_at, shown, stamp_line, block_refused}
use Rattle.stamps.specs.Parts.{line_of}
use Rattle.stamps.specs.Widths.{Wide}
use Rattle.stamps.proofs.Lengths.{line-most}
use Rattle.stamps.proofs.listing_laws.Numerals.{digits-whole}

-- ---- every line, of every list of bytes and by any rows
pub number-line-most : (rows : List Row) (s : List ℕ) (line : ℕ) → length (line_of Numbers rows (block_of s) s line) ≤ 33
unfolding line_room Wide
number-line-most rows s line = line-most Numbers rows (block_of s) s line tt

-- ---- the date of two zeros is -4713-11-24, by any rows with a text of 27 bytes
abbrev nil : Float
nil = of_bits binary64 0

abbrev zero_date : CalendarDate
zero_date = date (negsuc 4712) 11 24

zero_day : (day_number_and_fraction nil nil ≡ answer (day_of nil nil)) × ((day_of nil nil).day ≡ pos 0)
unfolding day_number_and_fraction day_of abs to_whole nearest_int round of_bits of_int add sub div neg lt le eq to_signed
zero_day = (refl, refl)

by-division : divided_date (pos 0) ≡ zero_date
unfolding divided_date
by-division = refl

zero_calendar : julian_to_calendar nil nil ≡ answer (fields zero_date (day_of nil nil).fraction)
unfolding julian_to_calendar onward
zero_calendar =
    rw zero_day.0 (ap (λ (d : CalendarDate). answer (fields d (day_of nil nil).fraction))
    (ap gregorian_date zero_day.1 ∙ divided-date (pos 0) ∙ by-division))

zero_valid : (valid_of zero_date ≡ answer tt) × (lt_z (pos 2733194) zero_date.year ≡ false)
unfolding valid_date days_in_month leap_size lengths onward
zero_valid = (refl, refl)

wide : (r : TimeShown) → length (text_by expanded_text zero_date r) ≡ 27
unfolding expanded_text expanded_year next lengths
wide (At t) = refl
wide NextMidnight = refl

pub zero_text : (rows : List Row) → (t : List ℕ) × (iso_text_expanded rows (julian nil nil) ≡ answer t) × (length t ≡ 27)
zero_text rows =
    let r = shown_by expanded_form.count (day_of nil nil).fraction (leap_on rows zero_date zero_valid.0 zero_valid.1) in (
      text_by expanded_text zero_date r,
      fields-given-by expanded_form rows (julian nil nil) _ zero_calendar
          ∙ has-text-by rows zero_date zero_valid.0 zero_valid.1 expanded_form (day_of nil nil).fraction,
      wide r,
    )

-- ---- in a block
module _ (z : List ℕ) (many : length z ≡ 16016) (each : (k : ℕ) → get_or z k 0 ≡ 0) where
  abbrev block : List ℕ
  block = 233 ∷ 3 ∷ 0 ∷ 0 ∷ 233 ∷ 3 ∷ 0 ∷ 0 ∷ z

  taken : block_of block ≡ answer 1001
  unfolding block_of u32_at four_at
  taken = rw many refl

  zeros-at : (jd1_bits block 1000 ≡ 0) × (jd2_bits block 1001 1000 ≡ 0)
  unfolding jd1_bits jd2_bits u64_at four_at
  zeros-at = (rw many (simp each), rw many (simp each))

  text_at_lem : (rows : List Row) → text_at rows block 1001 1000 ≡ answer (zero_text rows).0
  unfolding text_at stamp_at
  text_at_lem rows = (λ i. iso_text_expanded rows (julian (of_bits binary64 (zeros-at.0 i)) (of_bits binary64 (zeros-at.1 i)))) ∙ (zero_text rows).1

  line_33 : (rows : List Row) → length (stamp_line Numbers rows block 1001 1000) ≡ 33
  unfolding stamp_line shown digits_in
  line_33 rows = rw (text_at_lem rows) (let e = length-append (zero_text rows).0 (10 ∷ []) in omega (arith, (zero_text rows).2))

abbrev noughts : ℕ → List ℕ
noughts n = replicate n 0

zeros : (n k : ℕ) → get_or (noughts n) k 0 ≡ 0
zeros zero k = refl
zeros (suc n) zero = refl
zeros (suc n) (suc k) = zeros n k

pub longest-line : (rows : List Row) → (s : List ℕ) × (line : ℕ) × (block_of s ≡ answer 1001) × (length (line_of Numbers rows (block_of s) s line) ≡ 33)
unfolding line_of
longest-line rows =
    let z = noughts 16016 in
    let m = length-replicate {A = ℕ} 16016 0 in
    (block z m (zeros 16016), 1001, taken z m (zeros 16016), rw (taken z m (zeros 16016)) (line_33 z m (zeros 16016) rows))

-- ---- a line of 64 bytes, the most of the second listing: an input of zeros whose length has 20 digits, of which the first 64,009 bytes are at hand
abbrev twenty_digits : ℕ
twenty_digits = 10000000000000000000

module _ (z : List ℕ) (many : length z ≡ 64001) where
  abbrev long : List ℕ
  long = 0 ∷ 0 ∷ 0 ∷ 0 ∷ 0 ∷ 0 ∷ 0 ∷ 0 ∷ z

  refused-14 : block_of long ≡ refusal 14
  unfolding block_of u32_at four_at
  refused-14 = rw many refl

  line-64 : (rows : List Row) → length (line_of (Sentences twenty_digits) rows (refusal 14) long 0) ≡ 64
  unfolding line_of block_refused reported came render offending block_field named_text fixed_text texts digits_in u32_at four_at
  line-64 rows = rw (many, ← digits-whole 19 twenty_digits (lit< tt)) refl

pub longest-reported : (rows : List Row) → (s : List ℕ) × (n : ℕ) × (n < 18446744073709551616) × (block_of s ≡ refusal 14)
    × (length (line_of (Sentences n) rows (block_of s) s 0) ≡ 64)
longest-reported rows =
    let z = noughts 64001 in
    let m = length-replicate {A = ℕ} 64001 0 in
    (long z m, twenty_digits, omega arith, refused-14 z m, rw (refused-14 z m) (line-64 z m rows))
