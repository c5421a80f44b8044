-- The equations and lemmas by which the check finds the proofs of `scales` alone. Assumes nothing.
use Rattle.std.specs.Prelude.{◌≡◌, Float, Result, Ok, Err, IsErrAnd}
use Rattle.std.proofs.Common.{refl, ap}
use Rattle.std.proofs.lemmas.Bool.Decides.{nat_tests}
use Rattle.refusals.specs.declared.Refusal.{Refusal}
use Rattle.refusals.specs.declared.Refusal.TheVariants as R
use Rattle.refusals.specs.Refusal.{refusal_number}
use Rattle.refusals.specs.Outcome.{answer, refusal, onward, outcome, seen}
use Rattle.refusals.proofs.Handed.{handed_on}
use Rattle.refusals.proofs.Onward.{went, stopped}
use Rattle.julian.specs.declared.JulianDate.{JulianDate}
use Rattle.julian.specs.Finite.{finite_jd}
use Rattle.julian.specs.shifts.SmallerPart.{map_smaller_part}
use Rattle.julian.specs.shifts.Shifts.{changed, converted}

pub outcome_answer : {A : Type 0} (a : A) → outcome (Ok a) ≡ answer a
unfolding outcome
outcome_answer a = refl

pub outcome_refusal : {A : Type 0} (k : Refusal) → outcome {A = A} (Err k) ≡ refusal (refusal_number k)
unfolding outcome
outcome_refusal k = refl

pub seen_answer : {A B : Type 0} (f : A → B) (a : A) → seen f (Ok a) ≡ answer (f a)
unfolding seen
seen_answer f a = refl

pub seen_refusal : {A B : Type 0} (f : A → B) (k : Refusal) → seen f (Err k) ≡ refusal (refusal_number k)
unfolding seen
seen_refusal f k = refl

-- what `?` hands on, where the answer is seen by a function, as the date of a scale by its Julian date
pub stays : {A B : Type 0} (f : A → B) (s : Result A Refusal) (k : Refusal) → IsErrAnd s (λ e. e ≡ k) → seen f s ≡ refusal (refusal_number k)
unfolding seen
stays f (Err e) k p = ap (λ (x : Refusal). refusal (refusal_number x)) p
stays f (Ok a) k p = absurd p

pub out_of_limit : refusal_number R.OutOfLimit ≡ 18
unfolding refusal_number
out_of_limit = refl

pub not_decided : refusal_number R.WeekNotDecided ≡ 19
unfolding refusal_number
not_decided = refl

pub changed_is : (f : Float → Float → Float) (d : JulianDate) → changed f d ≡ answer (map_smaller_part f d)
unfolding changed
changed_is f d = refl

pub converted_is : (f : Float → Float → Float) (d : JulianDate) → converted f d ≡ onward (finite_jd d) (changed f)
unfolding converted
converted_is f d = refl

-- what the conversions are found by
pub ruleset handed = (outcome_answer, outcome_refusal, seen_answer, seen_refusal, stays, went, stopped, changed_is, converted_is)

-- what the weeks are found by
pub ruleset judged = (nat_tests, outcome_answer, outcome_refusal, seen_answer, seen_refusal, out_of_limit, not_decided, handed_on, went, stopped)
