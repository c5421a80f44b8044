-- The listing of a stamp block, a list of bytes. Written from document 01, "The program that lists a block": a header, then a line for each stamp; of a refused
-- block one line. Fields stand one space (32) apart, and every line ends with byte 10. The texts have expanded years, by document 02, item 6 ("The lister uses
-- it from then on"), and are those of a table of rows, by item 8 ("All calls that read offsets take it"). How a refusal is reported is a parameter: by its
-- number, or, by item 13 ("A second listing program prints them in place of `refused` and the number, on stamp lines and after `block`, not in the header"), by
-- its sentence. Assumes nothing.
use Rattle.std.specs.Prelude.{ℕ, zero, suc, ◌+◌, List, [], ◌∷◌, ◌++◌, length, pos}
use Rattle.refusals.specs.Outcome.{Outcome, answer, refusal}
use Rattle.numerals.specs.little_endian.LittleEndian.{u32_at}
use Rattle.numerals.specs.digits.Decimal.{digits_in}
use Rattle.julian.specs.declared.JulianDate.{JulianDate}
use Rattle.julian.specs.declared.CalendarFields.{CalendarFields}
use Rattle.julian.specs.Calendar.{julian_to_calendar}
use Rattle.leap_table.specs.rows.Table.{Row}
use Rattle.utc.specs.text.Ascii.{ascii_bytes}
use Rattle.utc.specs.iso_texts.Expanded.{iso_text_expanded}
use Rattle.reasons.specs.declared.Values.{Values}
use Rattle.reasons.specs.declared.Values.TheVariants.{Date, Parts, Block}
use Rattle.reasons.specs.Offending.{offending}
use Rattle.reasons.specs.sentences.Render.{render}
use Rattle.stamps.specs.declared.Reporting.{Reporting}
use Rattle.stamps.specs.declared.Reporting.TheVariants.{Numbers, Sentences}
use Rattle.stamps.specs.Block.{block_of, stamp_at}

-- a number, in decimal and with no zeros in front: four digits are enough, since the counts and the indexes of a listing are at most 4,000 and the refusals'
-- numbers at most 28
abbrev pub numeral : ℕ → List ℕ
numeral n = digits_in 4 n

abbrev pub refused_word : List ℕ
refused_word = ascii_bytes "refused "

abbrev pub utc_listing_words : List ℕ
utc_listing_words = ascii_bytes "utc listing "

abbrev pub block_word : List ℕ
block_word = ascii_bytes "block "

-- the most bytes of a line: a line is begun only where so many are left
unfoldable pub line_room : Reporting → ℕ
line_room Numbers = 33
line_room (Sentences n) = 64

-- `refused` and the number, or the number's sentence, which names the field of the values that is at fault
unfoldable pub reported : Reporting → ℕ → Values → List ℕ
reported Numbers k v = refused_word ++ numeral k
reported (Sentences n) k v = render (record { number = k; named = offending k v })

-- the conversion of stamp i of n: its text, or a refusal
unfoldable pub text_at : List Row → List ℕ → ℕ → ℕ → Outcome (List ℕ)
text_at rows s n i = iso_text_expanded rows (stamp_at s n i)

-- the values that the refusal of a date read: the calendar's date where the parts have a day, and else the parts
unfoldable pub values_by : JulianDate → Outcome CalendarFields → Values
values_by jd (answer c) = Date c.date.year (pos c.date.month) (pos c.date.day)
values_by jd (refusal k) = Parts jd.jd1 jd.jd2

abbrev pub refused_values : JulianDate → Values
refused_values jd = values_by jd (julian_to_calendar jd.jd1 jd.jd2)

-- the text of a date, or its refusal
unfoldable pub shown : Reporting → JulianDate → Outcome (List ℕ) → List ℕ
shown how jd (answer text) = text
shown how jd (refusal k) = reported how k (refused_values jd)

-- the line of stamp i of n
unfoldable pub stamp_line : Reporting → List Row → List ℕ → ℕ → ℕ → List ℕ
stamp_line how rows s n i = ((numeral i ++ (32 ∷ [])) ++ shown how (stamp_at s n i) (text_at rows s n i)) ++ (10 ∷ [])

-- the lines of the first k stamps of n
unfoldable pub stamp_lines : Reporting → List Row → List ℕ → ℕ → ℕ → List ℕ
stamp_lines how rows s n zero = []
stamp_lines how rows s n (suc k) = stamp_lines how rows s n k ++ stamp_line how rows s n k

-- how many of the first k stamps of n are refused
unfoldable pub one_if_refused : Outcome (List ℕ) → ℕ
one_if_refused (answer text) = 0
one_if_refused (refusal k) = 1

unfoldable pub refused_in : List Row → List ℕ → ℕ → ℕ → ℕ
refused_in rows s n zero = 0
refused_in rows s n (suc k) = refused_in rows s n k + one_if_refused (text_at rows s n k)

-- `utc listing`, the number of stamps, `refused`, the number of refused stamps
unfoldable pub header : ℕ → ℕ → List ℕ
header stamps refused = (((utc_listing_words ++ numeral stamps) ++ (32 ∷ refused_word)) ++ numeral refused) ++ (10 ∷ [])

-- how many bytes came in all, of which the block has the first
unfoldable pub came : Reporting → List ℕ → ℕ
came Numbers s = length s
came (Sentences n) s = n

-- the values that the refusal of a block read: how many bytes came, and its two sizes
abbrev pub block_values : Reporting → List ℕ → Values
block_values how s = Block (came how s) (u32_at s 0) (u32_at s 4)

-- `block`, and its refusal
unfoldable pub block_refused : Reporting → List ℕ → ℕ → List ℕ
block_refused how s k = (block_word ++ reported how k (block_values how s)) ++ (10 ∷ [])

unfoldable pub listing_of : Reporting → List Row → Outcome ℕ → List ℕ → List ℕ
listing_of how rows (answer n) s = header n (refused_in rows s n n) ++ stamp_lines how rows s n n
listing_of how rows (refusal k) s = block_refused how s k

-- the whole listing of the block s; a program that lends no rows lists with `fixed`
unfoldable pub listing : Reporting → List Row → List ℕ → List ℕ
listing how rows s = listing_of how rows (block_of s) s
