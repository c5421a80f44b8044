-- The order of two Julian dates by Knuth's two-sum: the rounded sums, then what their rounding lost. This project's own: the Rust has no order of dates, and
-- the sign of a difference is none. It is the order of the exact sums, which is proved (`exactly-ordered`). Assumes nothing.
use Rattle.std.specs.Prelude.{◌≡◌, ℕ, ltb, Bool, true, false, cond, ◌&&◌}
use Rattle.std.specs.declared.cmp.Ordering.{Ordering}
use Rattle.std.specs.declared.cmp.Ordering.TheVariants.{Less, Equal, Greater}
use Rattle.std.specs.Float.Ieee.{lt}
use Rattle.std.specs.Float.Ieee.Scale.{finite}
use Rattle.refusals.specs.Outcome.{Outcome, answer, refusal}
use Rattle.julian.specs.declared.JulianDate.{JulianDate}
use Rattle.julian.specs.declared.ExactSum.{ExactSum}
use Rattle.julian.specs.Equality.{sums}

pub data Order : Type 0 where
  comes_before : Order
  same_sum : Order
  comes_after : Order

-- what the code calls the order
unfoldable pub place : Ordering → Order
place Less = comes_before
place Equal = same_sum
place Greater = comes_after

-- the smaller sum comes first; of sums that are neither, the smaller error
unfoldable pub sooner : ExactSum → ExactSum → Bool
sooner s t = cond (lt s.sum t.sum) true (cond (lt t.sum s.sum) false (lt s.error t.error))

unfoldable pub date_order : JulianDate → JulianDate → Order
date_order d e = cond (sooner (sums d) (sums e)) comes_before (cond (sooner (sums e) (sums d)) comes_after same_sum)

-- 9: the error of a two-sum is not finite, as where a part or the sum is not
unfoldable pub comparison : JulianDate → JulianDate → Outcome Order
comparison d e = cond (finite (sums d).error && finite (sums e).error) (answer (date_order d e)) (refusal 9)

-- ---- the words of the theorems

-- the order of two numbers
unfoldable pub order_of : ℕ → ℕ → Order
order_of a b = cond (ltb a b) comes_before (cond (ltb b a) comes_after same_sum)

-- the order of the two the other way round
unfoldable pub swapped : Order → Order
swapped comes_before = comes_after
swapped same_sum = same_sum
swapped comes_after = comes_before

unfoldable pub is_equal : Order → Bool
is_equal comes_before = false
is_equal same_sum = true
is_equal comes_after = false

unfoldable pub not_after : Order → Bool
not_after comes_before = true
not_after same_sum = true
not_after comes_after = false

-- a part of the date is not finite
pub data PartNotFinite (d : JulianDate) : Type 0 where
  first_not_finite : finite d.jd1 ≡ false → PartNotFinite d
  second_not_finite : finite d.jd2 ≡ false → PartNotFinite d
