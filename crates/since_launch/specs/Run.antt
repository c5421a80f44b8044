-- The milliseconds of a run of stamps in one call: what is answered and what the two lent slices hold. Each stamp's are those of `since_launch`. Written from
-- the customer's request, "for a run in one call, with a number for each stamp"; the places are those of the runs of document 01's stamps. Refusals by
-- documents 01's and 02's numbers: 9 and 6 of the launch, 14 a broken length, 12 sizes that differ, 11 too few places. Assumes nothing.
use Rattle.std.specs.Prelude.{ℕ, zero, suc, ◌+◌, ◌*◌, ◌/◌, ◌%◌, cond, ◌&&◌, List, eqb, leb, length, set}
use Rattle.std.proofs.lemmas.List.Edits.{sets}
use Rattle.refusals.specs.Outcome.{Outcome, answer, refusal}
use Rattle.numerals.specs.little_endian.LittleEndian.{eight_bytes}
use Rattle.julian.specs.declared.JulianDate.{JulianDate}
use Rattle.julian.specs.stamp_lists.Stamps.{stamp_of}
use Rattle.since_launch.specs.declared.Place.{Place}
use Rattle.since_launch.specs.Millis.{place_at, since_launch}

-- ---- one stamp

-- the milliseconds of the stamp at place i: eight bytes of each part
abbrev pub stamp_millis : Place → List ℕ → List ℕ → ℕ → Outcome ℕ
stamp_millis launch js ks i = since_launch launch (stamp_of js ks i)

-- its number in one byte: 0 where it is answered. The refusals of a stamp, 9, 6 and 18, are below 256
unfoldable pub millis_number_byte : Outcome ℕ → ℕ
millis_number_byte (answer m) = 0
millis_number_byte (refusal k) = k % 256

-- its eight bytes; a refused stamp's stay
unfoldable pub with_millis : Outcome ℕ → ℕ → List ℕ → List ℕ
with_millis (answer m) i l = sets l (8 * i) (eight_bytes m)
with_millis (refusal k) i l = l

-- ---- the first n stamps, whose milliseconds are f 0, f 1, ..

unfoldable pub with_all : (ℕ → Outcome ℕ) → ℕ → List ℕ → List ℕ
with_all f zero l = l
with_all f (suc k) l = with_millis (f k) k (with_all f k l)

unfoldable pub with_millis_numbers : (ℕ → Outcome ℕ) → ℕ → List ℕ → List ℕ
with_millis_numbers f zero l = l
with_millis_numbers f (suc k) l = set (with_millis_numbers f k l) k (millis_number_byte (f k))

-- how many are refused
unfoldable pub millis_refused : (ℕ → Outcome ℕ) → ℕ → ℕ
millis_refused f zero = 0
millis_refused f (suc k) = millis_refused f k + cond (eqb (millis_number_byte (f k)) 0) 0 1

-- ---- the call

-- the answer, and what is left in the slices that are written
pub record MillisCall : Type 0 where
  pub answer : Outcome ℕ
  pub out : List ℕ
  pub numbers : List ℕ

abbrev pub millis_call : Outcome ℕ → List ℕ → List ℕ → MillisCall
millis_call o out numbers = record { answer = o; out = out; numbers = numbers }

-- n stamps with these milliseconds
unfoldable pub millis_written : (ℕ → Outcome ℕ) → ℕ → List ℕ → List ℕ → MillisCall
millis_written f n out numbers = millis_call (answer (millis_refused f n)) (with_all f n out) (with_millis_numbers f n numbers)

-- the refusal of the lengths in bytes: of the parts, and of the places for milliseconds and numbers; 0 for none
unfoldable pub run_lengths_refusal : ℕ → ℕ → ℕ → ℕ → ℕ
run_lengths_refusal size1 size2 room1 room2 =
    cond (eqb (size1 % 8) 0 && eqb (size2 % 8) 0)
    (cond (eqb size1 size2)
    (cond (leb size1 room1 && leb (size1 / 8) room2) 0 11)
    12)
    14

-- from a launch whose place is known
unfoldable pub millis_by : Place → List ℕ → List ℕ → List ℕ → List ℕ → MillisCall
millis_by launch js ks out numbers =
    cond (eqb (run_lengths_refusal (length js) (length ks) (length out) (length numbers)) 0)
    (millis_written (stamp_millis launch js ks) (length js / 8) out numbers)
    (millis_call (refusal (run_lengths_refusal (length js) (length ks) (length out) (length numbers))) out numbers)

unfoldable pub millis_from : Outcome Place → List ℕ → List ℕ → List ℕ → List ℕ → MillisCall
millis_from (answer launch) js ks out numbers = millis_by launch js ks out numbers
millis_from (refusal k) js ks out numbers = millis_call (refusal k) out numbers

unfoldable pub millis_of_run : JulianDate → List ℕ → List ℕ → List ℕ → List ℕ → MillisCall
millis_of_run from js ks out numbers = millis_from (place_at from) js ks out numbers
