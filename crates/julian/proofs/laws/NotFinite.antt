-- What is not finite. Equality of two dates where a sum of parts is not finite: both parts are compared, and a date with a NaN equals none, whichever part of
-- whichever date it is. And where a NaN is made though none was given: an infinite number of days or seconds added, and the difference of equal infinities.
-- Assumes nothing.
use mathlib.Core.Path.{◌≡◌, refl, ◌∙◌}
use mathlib.Core.Bool.{Bool, true, false, ◌&&◌}
use mathlib.Core.Logic.{◌⊎◌, inl, inr}
use lib.Ieee.{Float, nan, inf, fin, binary64, round, neg, add, sub, div, eq}
use lib.Ieee.Scale.{finite}
use Rattle.floats.specs.Whole.{to_whole, cut}
use Rattle.constants.specs.Constants.{seconds_per_day}
use Rattle.julian.specs.declared.JulianDate.{JulianDate}
use Rattle.julian.specs.JulianDate.{julian, rounded_sum, uncarried, add_days, add_seconds, difference}
use Rattle.julian.specs.Equality.{exact_sum, sums, equal}
use Rattle.julian.specs.laws.Nan.{HasNan}

no_second : (a : Bool) → a && false ≡ false
no_second true = refl
no_second false = refl

-- BOTH PARTS ARE COMPARED where a sum is not finite
pub equal-not-finite : (d e : JulianDate) → (finite (rounded_sum d) ≡ false) ⊎ (finite (rounded_sum e) ≡ false)
    → equal d e ≡ (eq d.jd1 e.jd1 && eq d.jd2 e.jd2)
unfolding equal sums exact_sum rounded_sum
equal-not-finite d e (inl h) = rw h
equal-not-finite d e (inr h) = rw (h, no_second (finite (add binary64 d.jd1 d.jd2)))

-- ---- a NaN

sum-second : (x : Float) → add binary64 x nan ≡ nan
unfolding add
sum-second nan = refl
sum-second (inf s) = refl
sum-second (fin s m e) = refl

sum_first : (x : Float) → add binary64 nan x ≡ nan
unfolding add
sum_first x = refl

eq-first : (x : Float) → eq nan x ≡ false
unfolding eq
eq-first x = refl

eq-second : (x : Float) → eq x nan ≡ false
unfolding eq
eq-second nan = refl
eq-second (inf s) = refl
eq-second (fin s m e) = refl

sum_of : (d : JulianDate) → HasNan d → finite (rounded_sum d) ≡ false
unfolding rounded_sum
sum_of d (inl h) = rw (h, sum_first)
sum_of d (inr h) = rw (h, sum-second)

-- A DATE WITH A NAN EQUALS NONE: not in either part of either date, itself included
pub nan_unequal : (d e : JulianDate) → HasNan d ⊎ HasNan e → equal d e ≡ false
nan_unequal d e (inl (inl h)) = equal-not-finite d e (inl (sum_of d (inl h))) ∙ rw (h, eq-first)
nan_unequal d e (inl (inr h)) = equal-not-finite d e (inl (sum_of d (inr h))) ∙ rw (h, eq-first, no_second)
nan_unequal d e (inr (inl h)) = equal-not-finite d e (inr (sum_of e (inl h))) ∙ rw (h, eq-second)
nan_unequal d e (inr (inr h)) = equal-not-finite d e (inr (sum_of e (inr h))) ∙ rw (h, eq-second, no_second)

-- ---- where a NaN is made

infinite_cut : (s : Bool) → sub binary64 (inf s) (to_whole cut (inf s)) ≡ nan
unfolding to_whole sub neg add
infinite_cut true = refl
infinite_cut false = refl

nan_less : (x : Float) → sub binary64 nan x ≡ nan
unfolding sub add
nan_less x = refl

cut-nan : to_whole cut nan ≡ nan
unfolding to_whole
cut-nan = refl

-- AN INFINITE NUMBER OF DAYS, and of seconds, makes both parts a NaN, whatever the date
pub add_infinite_days : (d : JulianDate) (s : Bool) → add_days d (inf s) ≡ julian nan nan
unfolding add_days uncarried
add_infinite_days d s = simp (infinite_cut, sum-second, cut-nan, nan_less)

-- so does a number of days that is a NaN
pub add_nan_days : (d : JulianDate) → add_days d nan ≡ julian nan nan
unfolding add_days uncarried
add_nan_days d = simp (cut-nan, nan_less, sum-second)

pub add_infinite_seconds : (d : JulianDate) (s : Bool) → add_seconds d (inf s) ≡ julian nan nan
unfolding add_seconds seconds_per_day div round
add_infinite_seconds d s = rw (infinite_quotient s) (add_infinite_days d s)
  where
    infinite_quotient : (s : Bool) → div binary64 (inf s) seconds_per_day ≡ inf s
    infinite_quotient true = refl
    infinite_quotient false = refl

-- EQUAL INFINITIES in the same place have no difference: it is a NaN
equal-infinities : (s : Bool) → sub binary64 (inf s) (inf s) ≡ nan
unfolding sub neg add
equal-infinities true = refl
equal-infinities false = refl

pub difference-of-infinities : (s : Bool) (x y : Float) → (difference (julian (inf s) x) (julian (inf s) y) ≡ nan)
    × (difference (julian x (inf s)) (julian y (inf s)) ≡ nan)
unfolding difference
difference-of-infinities s x y = (rw (equal-infinities, sum_first), rw (equal-infinities, sum-second))
