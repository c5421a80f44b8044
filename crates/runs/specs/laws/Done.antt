-- What a run leaves of one stamp: its number, 0 or that of its refusal, and the bytes of its date or those that stood there. Written from
-- include/celestial_time.h. Assumes nothing.
use Rattle.std.specs.Prelude.{ℕ, ◌+◌, ◌*◌, ◌/◌, ◌<◌, ◌≤◌, ◌≡◌, List, get_or, length}
use Rattle.std.specs.Float.{binary64}
use Rattle.std.specs.Float.Ieee.{to_bits}
use Rattle.refusals.specs.Outcome.{Outcome, answer, refusal}
use Rattle.numerals.specs.little_endian.LittleEndian.{eight_bytes}
use Rattle.julian.specs.declared.JulianDate.{JulianDate}
use Rattle.leap_table.specs.rows.Table.{Row}
use Rattle.runs.specs.by_formula.Run.{RunCall}
use Rattle.runs.specs.Run.{converted_run, run_refusal, stamp_answer}
use Rattle.runs.specs.laws.NotFiniteStamps.{StampNotFinite, not_zero_in, number_of_not_finite}

-- the stamp at place i, whose answer is o, after the call c; before it the places held out1 and out2
pub record StampDone (o : Outcome JulianDate) (i : ℕ) (out1 out2 : List ℕ) (c : RunCall) : Type 0 where
  pub answered : (d : JulianDate) → o ≡ answer d → get_or c.numbers i 0 ≡ 0
  pub numbered : (n : ℕ) → o ≡ refusal n → get_or c.numbers i 0 ≡ n
  pub first : (d : JulianDate) → o ≡ answer d → (k : ℕ) → k < 8 → get_or c.out1 (8 * i + k) 0 ≡ get_or (eight_bytes (to_bits binary64 d.jd1)) k 0
  pub second : (d : JulianDate) → o ≡ answer d → (k : ℕ) → k < 8 → get_or c.out2 (8 * i + k) 0 ≡ get_or (eight_bytes (to_bits binary64 d.jd2)) k 0
  pub first_stays : (n : ℕ) → o ≡ refusal n → (k : ℕ) → k < 8 → get_or c.out1 (8 * i + k) 0 ≡ get_or out1 (8 * i + k) 0
  pub second_stays : (n : ℕ) → o ≡ refusal n → (k : ℕ) → k < 8 → get_or c.out2 (8 * i + k) 0 ≡ get_or out2 (8 * i + k) 0

-- what lies behind the places of n stamps is as it was
pub record SpareStays (n : ℕ) (out1 out2 numbers : List ℕ) (c : RunCall) : Type 0 where
  pub first : (j : ℕ) → 8 * n ≤ j → get_or c.out1 j 0 ≡ get_or out1 j 0
  pub second : (j : ℕ) → 8 * n ≤ j → get_or c.out2 j 0 ≡ get_or out2 j 0
  pub third : (j : ℕ) → n ≤ j → get_or c.numbers j 0 ≡ get_or numbers j 0

-- A run from one scale to another, where the scales and the lengths are not refused: each stamp as the single calls have it, one that is not finite by its
-- number, and the answer is how many numbers are not 0
pub record RunDone (rows : List Row) (from to : ℕ) (js ks out1 out2 numbers : List ℕ) (c : RunCall) : Type 0 where
  pub each : (i : ℕ) → i < length js / 8 → StampDone (stamp_answer rows from to js ks i) i out1 out2 c
  pub not_finite : (i : ℕ) → i < length js / 8 → StampNotFinite js ks i → get_or c.numbers i 0 ≡ number_of_not_finite from to
  pub count : c.answer ≡ answer (not_zero_in (length js / 8) c.numbers)
  pub spare : SpareStays (length js / 8) out1 out2 numbers c

abbrev pub RunConverted : List Row → ℕ → ℕ → List ℕ → List ℕ → List ℕ → List ℕ → List ℕ → Type 0
RunConverted rows from to js ks out1 out2 numbers =
    run_refusal from to (length js) (length ks) (length out1) (length out2) (length numbers) ≡ 0
    → RunDone rows from to js ks out1 out2 numbers (converted_run (answer rows) from to js ks out1 out2 numbers)
