-- A number, a float and a Julian date taken apart and put together again: the same, and a check has then worked the numbers out, so that it compares them and
-- not how they came about. Assumes nothing.
use mathlib.Core.Path.{◌≡◌, refl, ap}
use Prim.Native.Nat.{ℕ, zero, suc}
use lib.IntN.{ℤ, pos, negsuc}
use lib.Ieee.{Float, nan, inf, fin}
use Rattle.refusals.specs.Outcome.{Outcome, answer, refusal}
use Rattle.julian.specs.declared.JulianDate.{JulianDate}
use Rattle.julian.specs.JulianDate.{julian}

abbrev pub number : ℕ → ℕ
number zero = zero
number (suc n) = suc n

number_is : (n : ℕ) → number n ≡ n
number_is zero = refl
number_is (suc n) = refl

abbrev pub integer : ℤ → ℤ
integer (pos n) = pos (number n)
integer (negsuc n) = negsuc (number n)

integer_is : (z : ℤ) → integer z ≡ z
integer_is (pos n) = ap pos (number_is n)
integer_is (negsuc n) = ap negsuc (number_is n)

abbrev pub floating : Float → Float
floating nan = nan
floating (inf s) = inf s
floating (fin s m e) = fin s (number m) (integer e)

pub floating_is : (x : Float) → floating x ≡ x
floating_is nan = refl
floating_is (inf s) = refl
floating_is (fin s m e) = λ i. fin s (number_is m i) (integer_is e i)

abbrev pub literal_date : Outcome JulianDate → Outcome JulianDate
literal_date (answer d) = answer (julian (floating d.jd1) (floating d.jd2))
literal_date (refusal n) = refusal n

pub literal_date_is : (o : Outcome JulianDate) → literal_date o ≡ o
literal_date_is (answer d) = λ i. answer (julian (floating_is d.jd1 i) (floating_is d.jd2 i))
literal_date_is (refusal n) = refl
