-- The outcome of a call that may refuse: an answer, or a refusal by number. Written from document 01, "Refusals by number": a refusal carries its number and
-- nothing else. Where the code answers by a Result, its outcome is the one that the contracts speak of. Assumes nothing.
use Rattle.std.specs.Prelude.{ℕ, Result, Ok, Err}
use Rattle.refusals.specs.declared.Refusal.{Refusal}
use Rattle.refusals.specs.Refusal.{refusal_number}

pub data Outcome (A : Type 0) : Type 0 where
  answer : A → Outcome A
  refusal : ℕ → Outcome A

-- go on with an answer, and hand a refusal on: the Rust's `?`
unfoldable pub onward : {A B : Type 0} → Outcome A → (A → Outcome B) → Outcome B
onward (answer a) k = k a
onward (refusal n) k = refusal n

-- what a result says, the answer seen by a function: of a date that is counted in a scale, its Julian date
unfoldable pub seen : {A B : Type 0} → (A → B) → Result A Refusal → Outcome B
seen f (Ok a) = answer (f a)
seen f (Err r) = refusal (refusal_number r)

-- what a result says
unfoldable pub outcome : {A : Type 0} → Result A Refusal → Outcome A
outcome (Ok a) = answer a
outcome (Err r) = refusal (refusal_number r)

-- the number that a result says: 0 where nothing is refused
unfoldable pub number_said : {A : Type 0} → Result A Refusal → ℕ
number_said (Ok a) = 0
number_said (Err r) = refusal_number r
