-- What `day_number_and_fraction` answers. Written from document 01, "Day and fraction" and refusal 6. Assumes nothing.
use Rattle.std.specs.Prelude.{cond, Float}
use Rattle.refusals.specs.Outcome.{Outcome, answer, refusal}
use Rattle.julian.specs.declared.day_number.DayNumber.{DayNumber}
use Rattle.julian.specs.day_number.DayNumber.{accepted, day_of}

-- 6 exactly where the rounded sum of the parts is not in -68569.5 to 1e9, and else the Rust's day and fraction
unfoldable pub day_number_and_fraction : Float → Float → Outcome DayNumber
unfolding accepted day_of
day_number_and_fraction jd1 jd2 = cond (accepted jd1 jd2) (answer (day_of jd1 jd2)) (refusal 6)
