-- An answer taken apart and put together again: the same, with its numbers worked out. Assumes nothing.
use mathlib.Core.Path.{◌≡◌, refl}
use Rattle.refusals.specs.Outcome.{Outcome, answer, refusal}
use Rattle.julian.proofs.laws.Literals.{floating, floating_is}
use Rattle.worked_cases.specs.Calls.{Value, parts, date_fields, float, bytes, stamp_count}

abbrev pub literal : Outcome Value → Outcome Value
literal (answer (parts x y)) = answer (parts (floating x) (floating y))
literal (answer (date_fields y m d x)) = answer (date_fields y m d (floating x))
literal (answer (float x)) = answer (float (floating x))
literal (answer (bytes l)) = answer (bytes l)
literal (answer (stamp_count n)) = answer (stamp_count n)
literal (refusal n) = refusal n

pub literal_is : (o : Outcome Value) → literal o ≡ o
literal_is (answer (parts x y)) = λ i. answer (parts (floating_is x i) (floating_is y i))
literal_is (answer (date_fields y m d x)) = λ i. answer (date_fields y m d (floating_is x i))
literal_is (answer (float x)) = λ i. answer (float (floating_is x i))
literal_is (answer (bytes l)) = refl
literal_is (answer (stamp_count n)) = refl
literal_is (refusal n) = refl
