-- Results and their outcomes: an answer is answered, a refusal handed on is refused by its number, and each number is 1 to 28. Assumes nothing.
use Rattle.std.proofs.Common.{◌≡◌, ◌%◌, refl, ap, sym, ◌∙◌, ◌≤◌}
use native.Mathlib.Omega.{arith}
use Rattle.std.specs.Prelude.{Result, Ok, Err, IsErrAnd}
use Rattle.refusals.specs.declared.Refusal.{Refusal}
use Rattle.refusals.specs.declared.Refusal.TheVariants as R
use Rattle.refusals.specs.Refusal.{refusal_number}
use Rattle.refusals.specs.Outcome.{Outcome, answer, refusal, onward, outcome, seen}
use Rattle.refusals.proofs.Onward.{went, stopped}

pub answered : {A : Type 0} {r : Result A Refusal} {a : A} → r ≡ Ok a → outcome r ≡ answer a
unfolding outcome
answered e = ap outcome e

pub handed : {A : Type 0} {r : Result A Refusal} {k : Refusal} → r ≡ Err k → outcome r ≡ refusal (refusal_number k)
unfolding outcome
handed e = ap outcome e

-- what `?` hands on
pub handed_on : {A : Type 0} (r : Result A Refusal) (k : Refusal) → IsErrAnd r (λ e. e ≡ k) → outcome r ≡ refusal (refusal_number k)
unfolding outcome
handed_on (Err e) k p = ap (λ (x : Refusal). refusal (refusal_number x)) p
handed_on (Ok a) k p = absurd p

-- what `?` hands on, where the definition goes on by the same outcome: `?` on a callee's result r, whose outcome is o
pub stops : {A B : Type 0} (s : Result B Refusal) (k : Refusal) (o : Outcome A) (go : A → Outcome B) → IsErrAnd s (λ e. e ≡ k) → outcome {A = A} (Err k) ≡ o
    → outcome s ≡ onward o go
unfolding outcome
stops s k o go p e = handed_on s k p ∙ sym (stopped go (sym e))

-- and where the callee answers
pub goes : {A B : Type 0} (a : A) (o : Outcome A) (go : A → Outcome B) → outcome (Ok a) ≡ o → go a ≡ onward o go
unfolding outcome
goes a o go e = sym (went go (sym e))

number_bounds : (r : Refusal) → (1 ≤ refusal_number r) × (refusal_number r ≤ 28)
unfolding refusal_number
number_bounds R.YearBeforeFirst = (omega arith, omega arith)
number_bounds R.MonthNotInYear = (omega arith, omega arith)
number_bounds R.DayNotInMonth = (omega arith, omega arith)
number_bounds R.TimeNotInDay = (omega arith, omega arith)
number_bounds R.NoNextDay = (omega arith, omega arith)
number_bounds R.DateOutOfRange = (omega arith, omega arith)
number_bounds R.FractionNotInDay = (omega arith, omega arith)
number_bounds R.NanosNotInSecond = (omega arith, omega arith)
number_bounds R.PartNotFinite = (omega arith, omega arith)
number_bounds R.OffsetNotFinite = (omega arith, omega arith)
number_bounds R.NoRoom = (omega arith, omega arith)
number_bounds R.SizesDiffer = (omega arith, omega arith)
number_bounds R.TooManyStamps = (omega arith, omega arith)
number_bounds R.LengthWrong = (omega arith, omega arith)
number_bounds R.TextOutsideGrammar = (omega arith, omega arith)
number_bounds R.TooManyFractionDigits = (omega arith, omega arith)
number_bounds R.OutOfOrder = (omega arith, omega arith)
number_bounds R.OutOfLimit = (omega arith, omega arith)
number_bounds R.WeekNotDecided = (omega arith, omega arith)
number_bounds R.TableSizesWrong = (omega arith, omega arith)
number_bounds R.TableNotRising = (omega arith, omega arith)
number_bounds R.TableStepWrong = (omega arith, omega arith)
number_bounds R.PassesNotUsable = (omega arith, omega arith)
number_bounds R.PassesNotRising = (omega arith, omega arith)
number_bounds R.TickOutsidePasses = (omega arith, omega arith)
number_bounds R.EndBeforeStart = (omega arith, omega arith)
number_bounds R.BillNumberOverLimit = (omega arith, omega arith)
number_bounds R.BothLengthsZero = (omega arith, omega arith)

pub number_low : (r : Refusal) → 1 ≤ refusal_number r
number_low r = (number_bounds r).0

pub number_high : (r : Refusal) → refusal_number r ≤ 28
number_high r = (number_bounds r).1

-- so that the byte beside a stamp has all of it
pub number_in_byte : (r : Refusal) → refusal_number r ≡ refusal_number r % 256
number_in_byte r = omega (arith, number_high r)

-- ---- the same where the answer is seen by a function
pub seen_answered : {A B : Type 0} (f : A → B) {r : Result A Refusal} {a : A} → r ≡ Ok a → seen f r ≡ answer (f a)
unfolding seen
seen_answered f e = ap (seen f) e

pub seen_handed : {A B : Type 0} (f : A → B) {r : Result A Refusal} {k : Refusal} → r ≡ Err k → seen f r ≡ refusal (refusal_number k)
unfolding seen
seen_handed f e = ap (seen f) e

pub seen_handed_on : {A B : Type 0} (f : A → B) (r : Result A Refusal) (k : Refusal) → IsErrAnd r (λ e. e ≡ k) → seen f r ≡ refusal (refusal_number k)
unfolding seen
seen_handed_on f (Err e) k p = ap (λ (x : Refusal). refusal (refusal_number x)) p
seen_handed_on f (Ok a) k p = absurd p

-- the callee's result is spoken of by `outcome`, the own one by `seen f`
pub seen_stops : {A B C : Type 0} (f : B → C) (s : Result B Refusal) (k : Refusal) (o : Outcome A) (go : A → Outcome C) → IsErrAnd s (λ e. e ≡ k)
    → outcome {A = A} (Err k) ≡ o → seen f s ≡ onward o go
unfolding outcome
seen_stops f s k o go p e = seen_handed_on f s k p ∙ sym (stopped go (sym e))

-- the callee's result is spoken of by `seen g`, the own one by `seen f` or by `outcome`
pub seen_stops_seen : {A B C D : Type 0} (f : B → C) (g : A → D) (s : Result B Refusal) (k : Refusal) (o : Outcome D) (go : D → Outcome C)
    → IsErrAnd s (λ e. e ≡ k) → seen g (Err k) ≡ o → seen f s ≡ onward o go
unfolding seen
seen_stops_seen f g s k o go p e = seen_handed_on f s k p ∙ sym (stopped go (sym e))

pub stops_seen : {A B D : Type 0} (g : A → D) (s : Result B Refusal) (k : Refusal) (o : Outcome D) (go : D → Outcome B) → IsErrAnd s (λ e. e ≡ k)
    → seen g (Err k) ≡ o → outcome s ≡ onward o go
unfolding seen
stops_seen g s k o go p e = handed_on s k p ∙ sym (stopped go (sym e))

pub seen_goes : {A B C : Type 0} (f : A → B) (a : A) (o : Outcome B) (go : B → Outcome C) → seen f (Ok a) ≡ o → go (f a) ≡ onward o go
unfolding seen
seen_goes f a o go e = sym (went go (sym e))

-- ---- what a result says, as equations, and the set of lemmas by which the check finds most functions that hand a refusal on
pub outcome_answer : {A : Type 0} (a : A) → outcome (Ok a) ≡ answer a
unfolding outcome
outcome_answer a = refl

pub outcome_refusal : {A : Type 0} (k : Refusal) → outcome {A = A} (Err k) ≡ refusal (refusal_number k)
unfolding outcome
outcome_refusal k = refl

pub seen_answer : {A B : Type 0} (f : A → B) (a : A) → seen f (Ok a) ≡ answer (f a)
unfolding seen
seen_answer f a = refl

pub seen_refusal : {A B : Type 0} (f : A → B) (k : Refusal) → seen f (Err k) ≡ refusal (refusal_number k)
unfolding seen
seen_refusal f k = refl

pub ruleset handed_by = (outcome_answer, outcome_refusal, seen_answer, seen_refusal, handed_on, seen_handed_on, went, stopped)
