-- THE THEOREM on document 01's sixteen starred cases: one table, one computed equality. The other worked cases are a table with its own. Assumes nothing.
use mathlib.Core.Path.{◌≡◌, refl, ap, ◌∙◌}
use mathlib.Core.List.{List, map}
use lib.ListN.{length}
use lib.Ieee.{binary64, round, of_bits}
use Rattle.refusals.specs.Outcome.{Outcome}
use Rattle.worked_cases.specs.Calls.{Call, Value}
use Rattle.worked_cases.specs.Cases.{Case, answers, expectations, leap_second, starred}
use Rattle.worked_cases.specs.Others.{others}
use Rattle.worked_cases.proofs.Computed.{computed, as_computed}

-- the same answers, as a check computes them
abbrev computations : List Case → List (Outcome Value)
computations cases = map (λ (c : Case). computed c.call) cases

answers-computed : (cases : List Case) → answers cases ≡ computations cases
answers-computed cases = ap (λ (f : Call → Outcome Value). map (λ (c : Case). f c.call) cases) (λ i c. as_computed c i)

starred-computed : computations starred ≡ expectations starred
unfolding starred leap_second computed
starred-computed = refl

-- DOCUMENT 01'S SIXTEEN STARRED CASES: each call answers what the paper says
pub starred-cases : answers starred ≡ expectations starred
starred-cases = answers-computed starred ∙ starred-computed

pub sixteen : length starred ≡ 16
unfolding starred
sixteen = refl

-- the pattern of 86400 / 86401, rounded once: 0.9999884260598836
pub leap-second-is : leap_second ≡ of_bits binary64 0x3fef_ffe7_ba49_c869
unfolding leap_second round of_bits
leap-second-is = refl

others-computed : computations others ≡ expectations others
unfolding others computed
others-computed = refl

-- the other worked cases
pub other_cases : answers others ≡ expectations others
other_cases = answers-computed others ∙ others-computed
