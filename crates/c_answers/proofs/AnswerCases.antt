-- WORKED ANSWERS IN BYTES, by computation: a date's parts, a calendar date, a zero with its sign, a rule, a refusal, and a table of one announced row, ten
-- years after the last fixed one, with a second more. Written from docs/DECISIONS.md 24 and document 02, items 5 and 8. Assumes nothing.
use Prim.Native.Nat.{ℕ, ◌+◌}
use mathlib.Core.Path.{◌≡◌, refl}
use mathlib.Core.List.{List, [], ◌∷◌, ◌++◌}
use lib.IntN.{pos, negsuc}
use lib.ListN.{get_or}
use lib.Ieee.{binary64, of_bits, to_bits, round, add}
use Rattle.refusals.specs.Outcome.{answer, refusal}
use Rattle.numerals.specs.little_endian.LittleEndian.{four_at, u32_at, signed32, eight_bytes, pattern_of}
use Rattle.calendar.specs.Calendar.{date}
use Rattle.julian.specs.JulianDate.{julian}
use Rattle.julian.specs.Calendar.{fields}
use Rattle.leap_table.specs.declared.offsets.Rule.TheVariants.{Whole}
use Rattle.leap_table.specs.rows.Table.{last_month, last_seconds}
use Rattle.leap_table.specs.rows.Announced.{table_of}
use Rattle.c_answers.specs.Fields.{float_bytes, date_bytes, julian_bytes, calendar_bytes}
use Rattle.c_answers.specs.Delivery.{code}
use Rattle.c_answers.specs.rules.RuleFields.{rule_number, row_pattern, rule_bytes}
use Rattle.c_answers.specs.table.TableBytes.{signed_from, record_in, of_length, table_bytes}

-- (2451545.0, 0.25): jd1 first
pub parts-in-bytes : julian_bytes (julian (of_bits binary64 0x4142_b42c_8000_0000) (of_bits binary64 0x3fd0_0000_0000_0000)) ≡ eight_bytes 0x4142_b42c_8000_0000
    ++ eight_bytes 0x3fd0_0000_0000_0000
unfolding julian_bytes of_bits to_bits round
parts-in-bytes = refl

-- 2016-12-31, and its noon
pub date-in-bytes : date_bytes (date (pos 2016) 12 31) ≡ 224 ∷ 7 ∷ 0 ∷ 0 ∷ 12 ∷ 0 ∷ 0 ∷ 0 ∷ 31 ∷ 0 ∷ 0 ∷ 0 ∷ []
unfolding date_bytes pattern_of
date-in-bytes = refl

pub noon_in_bytes : calendar_bytes (fields (date (pos 2016) 12 31) (of_bits binary64 0x3fe0_0000_0000_0000)) ≡ 224 ∷ 7 ∷ 0 ∷ 0 ∷ 12 ∷ 0 ∷ 0 ∷ 0 ∷ 31 ∷ 0 ∷ 0 ∷ 0
    ∷ 0 ∷ 0 ∷ 0 ∷ 0 ∷ 0 ∷ 0 ∷ 224 ∷ 63 ∷ []
unfolding calendar_bytes date_bytes pattern_of of_bits to_bits round
noon_in_bytes = refl

-- -0.0 keeps its sign
pub minus-zero-in-bytes : float_bytes (of_bits binary64 0x8000_0000_0000_0000) ≡ eight_bytes 0x8000_0000_0000_0000
unfolding of_bits to_bits round add
minus-zero-in-bytes = refl

-- row 40, whose seconds are whole
pub rule-in-bytes : rule_bytes (Whole 40) ≡ 2 ∷ 0 ∷ 0 ∷ 0 ∷ 40 ∷ 0 ∷ 0 ∷ 0 ∷ []
unfolding rule_number row_pattern
rule-in-bytes = refl

-- refusal 11 is -11
pub code-of-eleven : code (refusal 11) ≡ negsuc 10
unfolding code
code-of-eleven = refl

-- ---- a table
-- any other length than 136 is 14
pub lengths-of-a-table : (of_length 135 (answer []) ≡ refusal 14) × (of_length 136 (answer []) ≡ answer []) × (of_length 137 (answer []) ≡ refusal 14)
unfolding of_length
lengths-of-a-table = (refl, refl, refl)

-- eight numbers of eight bytes, of which the first is n and the others are 0
abbrev sixty-four : ℕ → List ℕ
sixty-four n = eight_bytes n ++ eight_bytes 0 ++ eight_bytes 0 ++ eight_bytes 0 ++ eight_bytes 0 ++ eight_bytes 0 ++ eight_bytes 0 ++ eight_bytes 0

-- the two sizes in eight bytes; the month and the seconds of a row
abbrev table-of : ℕ → List ℕ
table-of sizes = eight_bytes sizes ++ sixty-four (last_month + 120) ++ sixty-four (last_seconds + 1)

abbrev one-row : List ℕ
one-row = table-of 0x0000_0001_0000_0001

pub row_read : ((record_in one-row).months_size ≡ 1) × ((record_in one-row).seconds_size ≡ 1)
    × (get_or (record_in one-row).months 0 (pos 0) ≡ pos (last_month + 120))
    × (get_or (record_in one-row).seconds 0 (pos 0) ≡ pos (last_seconds + 1))
unfolding signed_from u32_at signed32 four_at
row_read = (refl, refl, refl, refl)

-- sizes of 1 and 2 are both read
pub second-size-read : (record_in (table-of 0x0000_0002_0000_0001)).seconds_size ≡ 2
unfolding u32_at four_at
second-size-read = refl

-- sizes of 0 and 1 are 20, though the first lends no row
pub first-size-none : table_bytes (table-of 0x0000_0001_0000_0000) ≡ refusal 20
unfolding table_bytes of_length table_of u32_at four_at
first-size-none = refl

-- all ones are -1
pub minus-one-read : signed_from (255 ∷ 255 ∷ 255 ∷ 255 ∷ []) 0 1 ≡ negsuc 0 ∷ []
unfolding signed_from u32_at signed32 four_at
minus-one-read = refl
