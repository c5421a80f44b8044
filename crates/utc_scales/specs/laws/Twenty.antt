-- The twenty conversions between scales as one table: sixteen that read no table of TAI-UTC, and four that do. Written from document 01, "Scale dates" and
-- "Refusals by number", and document 02, item 8. Assumes nothing.
use Rattle.std.specs.Prelude.{ℕ, ◌≡◌, ◌⊎◌, Bool, true, false, List, Float}
use Rattle.refusals.specs.Outcome.{Outcome, onward}
use Rattle.floats.specs.Whole.{nought}
use Rattle.julian.specs.declared.JulianDate.{JulianDate}
use Rattle.leap_table.specs.declared.rows.AnnouncedRows.{AnnouncedRows}
use Rattle.leap_table.specs.rows.Table.{Row}
use Rattle.leap_table.specs.rows.Announced.{table_of}
use Rattle.scales.specs.Conversions.{Conversion, answer_of, offset_of}
use Rattle.utc_scales.specs.UtcTai.{utc_to_tai, tai_to_utc}
use Rattle.utc_scales.specs.to_ut1.UtcUt1.{utc_to_ut1}
use Rattle.utc_scales.specs.from_ut1.Ut1Utc.{ut1_to_utc}
use Rattle.utc_scales.specs.laws.Claims.{SixOrOne, TenNineSixOrOne}

pub data Twenty : Type 0 where
  by-formula : Conversion → Twenty
  utc_tai tai_utc : Twenty
  utc-ut1 ut1-utc : (dut1 : Float) → Twenty

-- what each answers for a date
unfoldable pub answer_of_any : List Row → Twenty → JulianDate → Outcome JulianDate
answer_of_any rows (by-formula k) d = answer_of k d
answer_of_any rows utc_tai d = utc_to_tai rows d
answer_of_any rows tai_utc d = tai_to_utc rows d
answer_of_any rows (utc-ut1 dut1) d = utc_to_ut1 rows d dut1
answer_of_any rows (ut1-utc dut1) d = ut1_to_utc rows d dut1

-- what each answers where a table is lent: the four judge it first and hand its number on, the sixteen read none
unfoldable pub announced_answer : AnnouncedRows → Twenty → JulianDate → Outcome JulianDate
announced_answer t (by-formula k) d = answer_of k d
announced_answer t utc_tai d = onward (table_of t) (λ rows. utc_to_tai rows d)
announced_answer t tai_utc d = onward (table_of t) (λ rows. tai_to_utc rows d)
announced_answer t (utc-ut1 dut1) d = onward (table_of t) (λ rows. utc_to_ut1 rows d dut1)
announced_answer t (ut1-utc dut1) d = onward (table_of t) (λ rows. ut1_to_utc rows d dut1)

-- whether it reads the table
abbrev pub reads_table : Twenty → Bool
reads_table (by-formula k) = false
reads_table utc_tai = true
reads_table tai_utc = true
reads_table (utc-ut1 dut1) = true
reads_table (ut1-utc dut1) = true

-- the numbers of document 01 by which each refuses
abbrev pub numbers_of : Twenty → ℕ → Type 0
numbers_of (by-formula k) n = (n ≡ 9) ⊎ (n ≡ 10)
numbers_of utc_tai n = SixOrOne n
numbers_of tai_utc n = SixOrOne n
numbers_of (utc-ut1 dut1) n = TenNineSixOrOne n
numbers_of (ut1-utc dut1) n = TenNineSixOrOne n

-- the number by which each refuses a date with a part that is not finite
abbrev pub not_finite_number : Twenty → ℕ
not_finite_number (by-formula k) = 9
not_finite_number utc_tai = 6
not_finite_number tai_utc = 6
not_finite_number (utc-ut1 dut1) = 6
not_finite_number (ut1-utc dut1) = 9

-- the offset that the caller gives, and 0 where none is given
unfoldable pub given_offset : Twenty → Float
given_offset (by-formula k) = offset_of k
given_offset utc_tai = nought
given_offset tai_utc = nought
given_offset (utc-ut1 dut1) = dut1
given_offset (ut1-utc dut1) = dut1
