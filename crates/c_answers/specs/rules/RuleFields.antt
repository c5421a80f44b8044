-- The rule of an offset as 8 bytes, little-endian: its kind and its row, 4 bytes each. Written from document 02, item 5: absent, drifting or whole, with the
-- row counted from 0; the numbers 0, 1 and 2 and the row -1 of an absent one are the header's. Assumes nothing.
use Rattle.std.specs.Prelude.{ℕ, List, ◌++◌, Float}
use Rattle.julian.specs.declared.JulianDate.{JulianDate}
use Rattle.leap_table.specs.declared.offsets.Rule.{Rule}
use Rattle.leap_table.specs.declared.offsets.Rule.TheVariants.{Absent, Drifting, Whole}
use Rattle.c_answers.specs.Fields.{four_bytes, float_bytes, julian_bytes}

unfoldable pub rule_number : Rule → ℕ
rule_number Absent = 0
rule_number (Drifting i) = 1
rule_number (Whole i) = 2

-- in two's complement: -1 is all ones
unfoldable pub row_pattern : Rule → ℕ
row_pattern Absent = 0xffff_ffff
row_pattern (Drifting i) = i
row_pattern (Whole i) = i

abbrev pub rule_bytes : Rule → List ℕ
rule_bytes r = four_bytes (rule_number r) ++ four_bytes (row_pattern r)

-- 16 bytes: an offset and its rule
unfoldable pub offset_rule_bytes : Float × Rule → List ℕ
offset_rule_bytes p = float_bytes p.0 ++ rule_bytes p.1

-- 24 bytes: a date's two parts and its rule
unfoldable pub julian_rule_bytes : JulianDate × Rule → List ℕ
julian_rule_bytes p = julian_bytes p.0 ++ rule_bytes p.1
