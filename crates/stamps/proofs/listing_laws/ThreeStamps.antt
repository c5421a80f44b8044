-- A block of three stamps, worked: the first has a text, the second, of day -40,000, is refused by 1, and the third, a NaN, by 6. By any rows the count of the
-- header is 2, so that a refusal counts by either number. Assumes nothing.
use Prim.Native.Nat.{ℕ}
use mathlib.Core.Bool.{false}
use mathlib.Core.Path.{◌≡◌, refl, ap, ◌∙◌}
use mathlib.Core.List.{List, [], ◌∷◌, ◌++◌}
use lib.IntN.{ℤ, negsuc}
use lib.Ieee.{Float, binary64, of_bits, round, of_int, add, sub, div, neg, lt, le, eq, to_signed}
use lib.Ieee.Scale.{finite}
use Rattle.refusals.specs.Outcome.{answer, refusal}
use Rattle.numerals.specs.little_endian.LittleEndian.{four_at, u64_at}
use Rattle.numerals.specs.little_endian.Written.{all_bytes}
use Rattle.numerals.specs.digits.Decimal.{digits_in}
use Rattle.floats.specs.Whole.{abs, to_whole, nearest_int}
use Rattle.calendar.specs.Gregorian.{gregorian_date}
use Rattle.calendar.proofs.Years.{valid_of, gregorian_valid}
use Rattle.julian.specs.day_number.DayNumber.{day_of}
use Rattle.julian.specs.day_number.Answer.{day_number_and_fraction}
use Rattle.julian.specs.JulianDate.{julian}
use Rattle.julian.proofs.laws.CalendarDays.{fields-of}
use Rattle.leap_table.specs.rows.Table.{Row}
use Rattle.utc.specs.text.Ascii.{ascii_bytes}
use Rattle.utc.specs.iso_texts.Expanded.{expanded_form, iso_text_expanded}
use Rattle.utc.proofs.iso_texts.TextCalls.{fields-given-by}
use Rattle.utc.proofs.laws.DayTexts.{text-refused-by}
use Rattle.utc.proofs.laws.ExpandedTexts.{expanded-not-finite}
use Rattle.stamps.specs.Block.{jd1_bits, jd2_bits, stamp_at}
use Rattle.stamps.specs.Listing.{text_at, one_if_refused, refused_in, header}
use Rattle.stamps.specs.listing_laws.Writer.{block_bytes}
use Rattle.stamps.proofs.listing_laws.Longest.{zero_text}

abbrev three : List ℕ
three = block_bytes (record { first = 0; second = 0 } ∷ record { first = 0xc0e3_8800_0000_0000; second = 0 }
    ∷ record { first = 0x7ff8_0000_0000_0000; second = 0 } ∷ [])

abbrev nil : Float
nil = of_bits binary64 0

-- -40,000.0
abbrev early : Float
early = of_bits binary64 0xc0e3_8800_0000_0000

abbrev no_number : Float
no_number = of_bits binary64 0x7ff8_0000_0000_0000

-- ---- the three, read
stamps-read : (stamp_at three 3 0 ≡ julian nil nil) × (stamp_at three 3 1 ≡ julian early nil) × (stamp_at three 3 2 ≡ julian no_number nil)
unfolding stamp_at jd1_bits jd2_bits block_bytes all_bytes u64_at four_at
stamps-read = (refl, refl, refl)

-- ---- the second has a day, and no text
early-day : (day_number_and_fraction early nil ≡ answer (day_of early nil)) × ((day_of early nil).day ≡ negsuc 39999)
unfolding day_number_and_fraction day_of abs to_whole nearest_int round of_bits of_int add sub div neg lt le eq to_signed
early-day = (refl, refl)

early-refused : (rows : List Row) → iso_text_expanded rows (julian early nil) ≡ refusal 1
early-refused rows =
    fields-given-by expanded_form rows (julian early nil) _ (fields-of early nil _ early-day.0)
    ∙ text-refused-by rows (gregorian_date (day_of early nil).day) expanded_form (day_of early nil).fraction 1
    (ap (λ (n : ℤ). valid_of (gregorian_date n)) early-day.1 ∙ gregorian_valid (negsuc 39999))

not_finite : finite no_number ≡ false
unfolding of_bits
not_finite = refl

nan_refused : (rows : List Row) → iso_text_expanded rows (julian no_number nil) ≡ refusal 6
nan_refused rows = expanded-not-finite rows (julian no_number nil) (rw not_finite refl)

-- ---- BY 1 AND BY 6 make two
module _ (rows : List Row) where
  texts-of : (text_at rows three 3 0 ≡ answer (zero_text rows).0) × (text_at rows three 3 1 ≡ refusal 1) × (text_at rows three 3 2 ≡ refusal 6)
  unfolding text_at
  texts-of = (
    ap (iso_text_expanded rows) stamps-read.0 ∙ (zero_text rows).1,
    ap (iso_text_expanded rows) stamps-read.1 ∙ early-refused rows,
    ap (iso_text_expanded rows) stamps-read.2 ∙ nan_refused rows,
  )

  pub two-of-three : refused_in rows three 3 3 ≡ 2
  unfolding refused_in one_if_refused
  two-of-three = rw (texts-of.0, texts-of.1, texts-of.2) refl

  pub two-of-three-header : header 3 (refused_in rows three 3 3) ≡ ascii_bytes "utc listing 3 refused 2" ++ (10 ∷ [])
  unfolding header digits_in
  two-of-three-header = rw two-of-three refl
