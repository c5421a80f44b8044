-- Stamps and offsets as lists of patterns, 64 bits each, apart from what reads their bytes: number i of a list is the eight bytes from 8 i on. From
-- include/celestial_time.h, ct_convert_run and ct_formula_run. Assumes nothing.
use Rattle.std.specs.Prelude.{ℕ, ◌<◌, ◌≡◌, ◌⊎◌, List, get_or, Float}
use Rattle.std.specs.Float.{binary64}
use Rattle.std.specs.Float.Ieee.{of_bits}
use Rattle.refusals.specs.Outcome.{Outcome, answer}
use Rattle.floats.specs.ExponentField.{exponent_field}
use Rattle.julian.specs.declared.JulianDate.{JulianDate}
use Rattle.julian.specs.JulianDate.{julian}
use Rattle.runs.specs.by_formula.Run.{RunCall}
use Rattle.runs.specs.laws.NotFiniteStamps.{not_zero_in}
use Rattle.runs.specs.laws.Done.{StampDone, SpareStays}

-- the float of the i-th pattern of a list, and the date of the i-th of two
abbrev pub listed_float : List ℕ → ℕ → Float
listed_float os i = of_bits binary64 (get_or os i 0)

abbrev pub listed_date : List ℕ → List ℕ → ℕ → JulianDate
listed_date js ks i = julian (listed_float js i) (listed_float ks i)

-- the i-th stamp has a part whose exponent field is all ones
abbrev pub ListedNotFinite : List ℕ → List ℕ → ℕ → Type 0
ListedNotFinite js ks i = (exponent_field (get_or js i 0) ≡ 2047) ⊎ (exponent_field (get_or ks i 0) ≡ 2047)

-- a call c over n stamps that is answered: how many numbers are not 0, what is left of each stamp, whose answer is f i, and what stays
pub record ListedRun (f : ℕ → Outcome JulianDate) (n : ℕ) (out1 out2 numbers : List ℕ) (c : RunCall) : Type 0 where
  pub count : c.answer ≡ answer (not_zero_in n c.numbers)
  pub each : (i : ℕ) → i < n → StampDone (f i) i out1 out2 c
  pub spare : SpareStays n out1 out2 numbers c
