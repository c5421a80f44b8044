-- A run of stamps with their answers: what is answered and what the three lent slices hold. This project's own, for the customer's nine million stamps of one
-- recorder. Assumes nothing.
use Rattle.std.specs.Prelude.{ℕ, zero, suc, ◌+◌, ◌*◌, ◌%◌, cond, List, eqb, set, Float}
use Rattle.std.proofs.lemmas.List.Edits.{sets}
use Rattle.std.specs.Float.{binary64}
use Rattle.std.specs.Float.Ieee.{to_bits}
use Rattle.refusals.specs.Outcome.{Outcome, answer, refusal}
use Rattle.numerals.specs.little_endian.LittleEndian.{eight_bytes}
use Rattle.julian.specs.declared.JulianDate.{JulianDate}

-- ---- one stamp

-- the number of an answer in one byte: 0 where it is answered. The refusals of a way and of a formula are below 256
unfoldable pub number_byte : Outcome JulianDate → ℕ
number_byte (answer d) = 0
number_byte (refusal k) = k % 256

abbrev pub first_part : JulianDate → Float
first_part d = d.jd1

abbrev pub second_part : JulianDate → Float
second_part d = d.jd2

-- a part of the answer in its eight bytes; a refused stamp's stay
unfoldable pub with_part : (JulianDate → Float) → Outcome JulianDate → ℕ → List ℕ → List ℕ
with_part part (answer d) i l = sets l (8 * i) (eight_bytes (to_bits binary64 (part d)))
with_part part (refusal k) i l = l

-- ---- the first n stamps, whose answers are f 0, f 1, ..

unfoldable pub with_parts : (JulianDate → Float) → (ℕ → Outcome JulianDate) → ℕ → List ℕ → List ℕ
with_parts part f zero l = l
with_parts part f (suc k) l = with_part part (f k) k (with_parts part f k l)

unfoldable pub with_numbers : (ℕ → Outcome JulianDate) → ℕ → List ℕ → List ℕ
with_numbers f zero l = l
with_numbers f (suc k) l = set (with_numbers f k l) k (number_byte (f k))

-- how many are refused
unfoldable pub refused_among : (ℕ → Outcome JulianDate) → ℕ → ℕ
refused_among f zero = 0
refused_among f (suc k) = refused_among f k + cond (eqb (number_byte (f k)) 0) 0 1

-- ---- the call

-- the answer, and what is left in the slices that are written
pub record RunCall : Type 0 where
  pub answer : Outcome ℕ
  pub out1 : List ℕ
  pub out2 : List ℕ
  pub numbers : List ℕ

abbrev pub run_call : Outcome ℕ → List ℕ → List ℕ → List ℕ → RunCall
run_call o out1 out2 numbers = record { answer = o; out1 = out1; out2 = out2; numbers = numbers }

-- n stamps with these answers
unfoldable pub run_written : (ℕ → Outcome JulianDate) → ℕ → List ℕ → List ℕ → List ℕ → RunCall
run_written f n out1 out2 numbers = run_call (answer (refused_among f n)) (with_parts first_part f n out1) (with_parts second_part f n out2)
    (with_numbers f n numbers)
