-- The rule and the row of an answer for C are read back from its bytes, alone and behind what they belong to. Assumes nothing.
use Prim.Native.Nat.{ℕ, zero, suc, ◌<◌}
use native.Mathlib.Omega.{arith}
use mathlib.Core.Path.{◌≡◌, refl, ◌∙◌}
use mathlib.Core.List.{[], ◌∷◌}
use lib.IntN.{negsuc}
use lib.Ieee.{Float}
use Rattle.numerals.specs.little_endian.LittleEndian.{four_at, u32_at, signed32}
use Rattle.julian.specs.declared.JulianDate.{JulianDate}
use Rattle.leap_table.specs.declared.offsets.Rule.{Rule}
use Rattle.leap_table.specs.declared.offsets.Rule.TheVariants.{Absent, Drifting, Whole}
use Rattle.c_answers.specs.Fields.{julian_bytes}
use Rattle.c_answers.specs.rules.RuleFields.{rule_number, row_pattern, rule_bytes, offset_rule_bytes, julian_rule_bytes}
use Rattle.c_answers.specs.table.RecordBytes.{in_fours}
use Rattle.c_answers.proofs.table.ReadBack.{in_place}

-- the rule of a kind and a row
abbrev pub rule_from : ℕ → ℕ → Rule
rule_from zero row = Absent
rule_from (suc zero) row = Drifting row
rule_from (suc (suc k)) row = Whole row

small : (r : Rule) → rule_number r < 4294967296
unfolding rule_number
small Absent = omega arith
small (Drifting i) = omega arith
small (Whole i) = omega arith

again : (r : Rule) → rule_from (rule_number r) (row_pattern r) ≡ r
unfolding rule_number row_pattern
again Absent = refl
again (Drifting i) = refl
again (Whole i) = refl

module _ (r : Rule) (fits : row_pattern r < 4294967296) where
  pub number-back : u32_at (rule_bytes r) 0 ≡ rule_number r
  unfolding in_fours
  number-back = in_place (rule_number r ∷ row_pattern r ∷ []) 0 0 refl (omega arith) (small r)

  pub row_back : u32_at (rule_bytes r) 4 ≡ row_pattern r
  unfolding in_fours
  row_back = in_place (rule_number r ∷ row_pattern r ∷ []) 1 4 refl (omega arith) fits

  pub rule-back : rule_from (u32_at (rule_bytes r) 0) (u32_at (rule_bytes r) 4) ≡ r
  rule-back = (λ i. rule_from (number-back i) (row_back i)) ∙ again r

  -- behind an offset
  pub offset-rule-back : (x : Float) → rule_from (u32_at (offset_rule_bytes (x, r)) 8) (u32_at (offset_rule_bytes (x, r)) 12) ≡ r
  unfolding offset_rule_bytes u32_at four_at
  offset-rule-back x = rule-back

  -- behind a date
  pub date-rule-back : (d : JulianDate) → rule_from (u32_at (julian_rule_bytes (d, r)) 16) (u32_at (julian_rule_bytes (d, r)) 20) ≡ r
  unfolding julian_rule_bytes julian_bytes u32_at four_at
  date-rule-back d = rule-back

-- an absent rule's row is -1
pub absent-row : signed32 (row_pattern Absent) ≡ negsuc 0
unfolding signed32 row_pattern
absent-row = refl
