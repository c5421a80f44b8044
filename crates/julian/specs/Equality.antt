-- When two Julian dates are equal: the Rust's test (julian/mod.rs), by Knuth's two-sum. For parts under 2^52 in size it is that of the exact sums (document 01,
-- "Julian date"), which is proved (`equal-exactly`). Assumes nothing.
use Rattle.std.specs.Prelude.{Bool, cond, ◌&&◌, T, Float}
use Rattle.std.specs.Float.{binary64}
use Rattle.std.specs.Float.Ieee.{fits, add, sub, eq}
use Rattle.std.specs.Float.Ieee.Scale.{finite}
use Rattle.julian.specs.declared.JulianDate.{JulianDate}
use Rattle.julian.specs.declared.ExactSum.{ExactSum}
use Rattle.julian.specs.Finite.{both_finite}

unfoldable pub two_sum_error : Float → Float → Float → Float
two_sum_error a b sum = add binary64 (sub binary64 a (sub binary64 sum (sub binary64 sum a))) (sub binary64 b (sub binary64 sum a))

unfoldable pub exact_sum : Float → Float → ExactSum
exact_sum a b = record { sum = add binary64 a b; error = two_sum_error a b (add binary64 a b) }

unfoldable pub sums : JulianDate → ExactSum
sums d = exact_sum d.jd1 d.jd2

-- the two-sum of a date's parts does not overflow: the sum and its error are finite. All parts under 2^52 in size are such, and nearly all others.
pub record FiniteSums (d : JulianDate) : Type 0 where
  pub first_float : T (fits binary64 d.jd1)
  pub second_float : T (fits binary64 d.jd2)
  pub sum : T (finite (sums d).sum)
  pub error : T (finite (sums d).error)

abbrev pub same_pair : Float → Float → Float → Float → Bool
same_pair a b c d = eq a c && eq b d

-- where a sum is not finite its error is a NaN, and the parts are compared
unfoldable pub equal : JulianDate → JulianDate → Bool
equal d e =
    cond (both_finite (sums d).sum (sums e).sum)
    (same_pair (sums d).sum (sums d).error (sums e).sum (sums e).error)
    (same_pair d.jd1 d.jd2 e.jd1 e.jd2)
