-- The number that a result says: that of its refusal, and 0 where nothing is refused. Assumes nothing.
use Rattle.std.proofs.Common.{◌≡◌, ap}
use native.Mathlib.Omega.{arith}
use Rattle.std.specs.Prelude.{Result, Ok, Err, IsErrAnd}
use Rattle.refusals.specs.declared.Refusal.{Refusal}
use Rattle.refusals.specs.Refusal.{refusal_number}
use Rattle.refusals.specs.Outcome.{number_said}
use Rattle.refusals.proofs.Handed.{number_low}

module _ {A : Type 0} where
  pub nothing-refused : {r : Result A Refusal} {a : A} → r ≡ Ok a → number_said r ≡ 0
  unfolding number_said
  nothing-refused e = ap number_said e

  pub by-number : {r : Result A Refusal} {k : Refusal} → r ≡ Err k → number_said r ≡ refusal_number k
  unfolding number_said
  by-number e = ap number_said e

  -- what `?` hands on
  pub number_handed_on : (r : Result A Refusal) (k : Refusal) → IsErrAnd r (λ e. e ≡ k) → number_said r ≡ refusal_number k
  unfolding number_said
  number_handed_on (Err e) k p = ap refusal_number p
  number_handed_on (Ok a) k p = absurd p

-- no refusal has the number 0
pub not-zero : (k : Refusal) → refusal_number k ≡ 0 → ⊥
not-zero k e = omega (arith, number_low k)
