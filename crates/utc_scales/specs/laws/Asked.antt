-- What demand 1 and document 02, items 5 and 8, ask of all twenty conversions, where a table is lent. Assumes nothing.
use Rattle.std.specs.Prelude.{◌≡◌, ◌&&◌, false, true, List, ℕ, Float}
use Rattle.std.specs.Float.Ieee.Scale.{finite}
use Rattle.refusals.specs.Outcome.{answer, refusal}
use Rattle.julian.specs.declared.JulianDate.{JulianDate}
use Rattle.julian.specs.Finite.{finite_parts}
use Rattle.julian.specs.Worth.{SmallParts}
use Rattle.leap_table.specs.declared.rows.AnnouncedRows.{AnnouncedRows}
use Rattle.leap_table.specs.rows.Table.{Row, fixed}
use Rattle.leap_table.specs.rows.Announced.{table_of}
use Rattle.leap_table.specs.offsets.Told.{WithRule}
use Rattle.scales.specs.laws.Ranges.{Billion, FiniteParts, Held}
use Rattle.utc_scales.specs.UtcTai.{utc_to_tai}
use Rattle.utc_scales.specs.ByRule.{utc_to_tai_by_rule}
use Rattle.utc_scales.specs.days.DateRule.{rule_of_date}
use Rattle.utc_scales.specs.days.LargerPart.{kept_parts}
use Rattle.utc_scales.specs.to_ut1.UtcUt1.{utc_to_ut1}
use Rattle.utc_scales.specs.to_ut1.ByRule.{utc_to_ut1_by_rule}
use Rattle.utc_scales.specs.laws.Claims.{Any, Holds, SixOrOne, WithTable}
use Rattle.utc_scales.specs.laws.Twenty.{Twenty, announced_answer, answer_of_any, given_offset, numbers_of, reads_table}

-- a part or an offset that is not finite is refused
abbrev pub ConversionRefuses : AnnouncedRows → Twenty → JulianDate → Type 0
ConversionRefuses t k j = Held j → finite_parts j && finite (given_offset k) ≡ false → (n : ℕ) × (announced_answer t k j ≡ refusal n)

-- an answer, or one of the conversion's own numbers, or one of the table's where it reads it
abbrev pub ConversionAnswers : AnnouncedRows → Twenty → JulianDate → Type 0
ConversionAnswers t k j = Held j → Holds Any (WithTable (reads_table k) (numbers_of k)) (announced_answer t k j)

-- with parts under 2^52 and an offset of at most 10^9 s the answer is finite, or the refusal is 6, 1 or the table's
abbrev pub ConversionFinite : AnnouncedRows → Twenty → JulianDate → Type 0
ConversionFinite t k j = SmallParts j → Billion (given_offset k) → Holds FiniteParts (WithTable (reads_table k) SixOrOne) (announced_answer t k j)

-- a table's refusal comes before every other
abbrev pub TableFirst : AnnouncedRows → Twenty → JulianDate → Type 0
TableFirst t k j = (n : ℕ) → reads_table k ≡ true → table_of t ≡ refusal n → announced_answer t k j ≡ refusal n

-- with no rows the table is the fixed one, and every answer is by it
abbrev pub NoRowsSame : AnnouncedRows → Twenty → JulianDate → Type 0
NoRowsSame t k j = t.months_size ≡ 0 → t.seconds_size ≡ 0 → (table_of t ≡ answer fixed) × (announced_answer t k j ≡ answer_of_any fixed k j)

-- UTC to TAI and UTC to UT1 pass on the rule of the calendar's date at 0h, and are else as before
abbrev pub ScalesPassOn : List Row → JulianDate → Float → Type 0
ScalesPassOn rows j dut1 =
    WithRule (utc_to_tai_by_rule rows j) (utc_to_tai rows j) (rule_of_date rows (kept_parts j).larger (kept_parts j).smaller)
    × WithRule (utc_to_ut1_by_rule rows j dut1) (utc_to_ut1 rows j dut1) (rule_of_date rows j.jd1 j.jd2)
