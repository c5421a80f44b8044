-- WHAT IS LEFT OF STAMPS with any answers that were written: of one stamp, behind the last, and the count. Assumes nothing.
use Prim.Native.Nat.{ℕ, ◌*◌, ◌<◌, ◌≤◌}
use native.Mathlib.Omega.{arith}
use mathlib.Core.Path.{◌≡◌, ap, ◌∙◌}
use mathlib.Core.List.{List}
use lib.ListN.{length}
use Rattle.refusals.specs.Outcome.{Outcome, answer, refusal}
use Rattle.julian.specs.declared.JulianDate.{JulianDate}
use Rattle.runs.specs.by_formula.Run.{number_byte, first_part, second_part, run_written}
use Rattle.runs.specs.laws.NotFiniteStamps.{not_zero_in}
use Rattle.runs.specs.laws.Done.{StampDone, SpareStays}
use Rattle.runs.proofs.laws.Bytes.{parts-beyond, answered-at, refused-at, numbers-beyond, number-at, counted}

-- a number that a byte holds is told as it is
refused-byte : (o : Outcome JulianDate) (k : ℕ) → o ≡ refusal k → k < 256 → number_byte o ≡ k
unfolding number_byte
refused-byte o k e h = ap number_byte e ∙ (let m : _ = omega arith in m)

answered_byte : (o : Outcome JulianDate) (d : JulianDate) → o ≡ answer d → number_byte o ≡ 0
unfolding number_byte
answered_byte o d e = ap number_byte e

module _ (f : ℕ → Outcome JulianDate) (n : ℕ) (out1 out2 numbers : List ℕ) (room1 : 8 * n ≤ length out1) (room2 : 8 * n ≤ length out2)
    (room : n ≤ length numbers) where
  pub stamp-written : (i : ℕ) → i < n → ((k : ℕ) → f i ≡ refusal k → k < 256) → StampDone (f i) i out1 out2 (run_written f n out1 out2 numbers)
  unfolding run_written
  stamp-written i h small = record {
    answered = λ d e. number-at f numbers n i h room ∙ answered_byte (f i) d e;
    numbered = λ k e. number-at f numbers n i h room ∙ refused-byte (f i) k e (small k e);
    first = λ d e k b. answered-at first_part f out1 n i k d h b room1 e;
    second = λ d e k b. answered-at second_part f out2 n i k d h b room2 e;
    first_stays = λ r e k b. refused-at first_part f out1 n i k r h b e;
    second_stays = λ r e k b. refused-at second_part f out2 n i k r h b e;
  }

  pub spare-kept : SpareStays n out1 out2 numbers (run_written f n out1 out2 numbers)
  unfolding run_written
  spare-kept = record {
    first = λ j h. parts-beyond first_part f out1 n j h;
    second = λ j h. parts-beyond second_part f out2 n j h;
    third = λ j h. numbers-beyond f numbers n j h;
  }

  pub count-written : (run_written f n out1 out2 numbers).answer ≡ answer (not_zero_in n (run_written f n out1 out2 numbers).numbers)
  unfolding run_written
  count-written = ap answer (counted f numbers n n (omega arith) room)
