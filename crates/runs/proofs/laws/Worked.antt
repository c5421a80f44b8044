-- Runs at the ends of what is taken, and small ones, worked out. Assumes nothing.
use Prim.Native.Nat.{ℕ, zero, suc, ◌+◌, ◌*◌}
use mathlib.Core.Path.{◌≡◌, refl}
use mathlib.Core.List.{[], ◌∷◌}
use lib.Ieee.{of_bits}
use Rattle.refusals.specs.Outcome.{Outcome, answer, refusal, onward}
use Rattle.numerals.specs.little_endian.LittleEndian.{four_at, u64_at, eight_bytes}
use Rattle.numerals.specs.little_endian.Written.{all_bytes}
use Rattle.floats.specs.Whole.{nought}
use Rattle.julian.specs.declared.JulianDate.{JulianDate}
use Rattle.julian.specs.JulianDate.{julian}
use Rattle.julian.specs.stamp_lists.Stamps.{stamp_of}
use Rattle.julian.specs.Finite.{finite_jd, finite_arg}
use Rattle.julian.specs.shifts.Shifts.{changed, finite_both, finite_offset, converted_by}
use Rattle.scales.specs.Conversions.{answer_of}
use Rattle.runs.specs.ways.Ways.{is_run_scale}
use Rattle.runs.specs.Run.{run_refusal}
use Rattle.runs.specs.by_formula.Run.{number_byte, with_numbers, refused_among}
use Rattle.runs.specs.by_formula.Formula.{formula_of, by_formula, formula_answer}

-- EACH OF THE FIVE SCALES with itself and with the next: a stamp passes, and nine million
pub scales-taken :
    (run_refusal 0 0 8 8 8 8 1 ≡ 0) × (run_refusal 0 1 8 8 8 8 1 ≡ 0) × (run_refusal 1 3 8 8 8 8 1 ≡ 0) × (run_refusal 3 4 8 8 8 8 1 ≡ 0)
    × (run_refusal 4 5 8 8 8 8 1 ≡ 0) × (run_refusal 5 0 8 8 8 8 1 ≡ 0) × (run_refusal 4 1 72000000 72000000 72000000 72000000 9000000 ≡ 0)
    × (run_refusal 2 1 8 8 8 8 1 ≡ 18) × (run_refusal 1 6 8 8 8 8 1 ≡ 18)
unfolding run_refusal is_run_scale
scales-taken = (refl, refl, refl, refl, refl, refl, refl, refl, refl)

-- a NaN offset at place 1 beside a sound one at place 0: the second stamp alone is 10
pub second-offset-not-finite :
    number_byte (formula_answer 1 2 (all_bytes eight_bytes (0x4142b42c80000000 ∷ 0x4142b42c80000000 ∷ [])) (all_bytes eight_bytes (0 ∷ 0 ∷ []))
    (all_bytes eight_bytes (0xc042400000000000 ∷ 0x7ff8000000000000 ∷ [])) 1) ≡ 10
unfolding number_byte by_formula formula_of onward answer_of converted_by changed all_bytes stamp_of u64_at four_at finite_both finite_jd of_bits finite_offset
    finite_arg
second-offset-not-finite = refl

-- EACH NUMBER AS IT IS: of five stamps the second, third, fourth and last are refused, by 1, 6, 9 and 10, and the first is answered
abbrev refused-each : ℕ → Outcome JulianDate
refused-each zero = answer (julian nought nought)
refused-each (suc zero) = refusal 1
refused-each (suc (suc zero)) = refusal 6
refused-each (suc (suc (suc zero))) = refusal 9
refused-each (suc (suc (suc (suc k)))) = refusal 10

pub numbers-written : with_numbers refused-each 5 (7 ∷ 7 ∷ 7 ∷ 7 ∷ 7 ∷ 7 ∷ []) ≡ (0 ∷ 1 ∷ 6 ∷ 9 ∷ 10 ∷ 7 ∷ [])
unfolding with_numbers number_byte
numbers-written = refl

-- of two that are refused, by 6 and by 9, both count
pub two-refused : refused_among (λ (i : ℕ). refusal (6 + 3 * i)) 2 ≡ 2
unfolding refused_among number_byte
two-refused = refl
