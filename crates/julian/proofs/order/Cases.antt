-- Cases of the order, each computed from the definitions: dates that the sign of a difference puts in no order, one date divided in two ways, dates 10^-20 day
-- apart, and dates that are refused. Assumes nothing.
use mathlib.Core.Path.{◌≡◌, refl}
use mathlib.Core.Bool.{true, false}
use Prim.Native.Nat.{◌-◌, ◌^◌}
use lib.IntN.{pos}
use lib.Ieee.{Float, nan, fin, round, add, sub, neg, lt, eq}
use Rattle.refusals.specs.Outcome.{answer, refusal}
use Rattle.floats.specs.Whole.{nought}
use Rattle.constants.specs.Constants.{decimal}
use Rattle.julian.specs.declared.JulianDate.{JulianDate}
use Rattle.julian.specs.JulianDate.{julian, difference}
use Rattle.julian.specs.Equality.{two_sum_error, exact_sum, sums}
use Rattle.julian.specs.order.Order.{comes_before, same_sum, comes_after, sooner, date_order, comparison}

-- (2457753.5, 0.7071109074091659), 30 ns later (2400000.5, 57753.70711090741), and 56 ns after that (2457753.5, 0.7071109074101659)
abbrev first : JulianDate
first = julian (decimal 24577535 1) (decimal 7071109074091659 16)

abbrev second : JulianDate
second = julian (decimal 24000005 1) (decimal 5775370711090741 11)

abbrev third : JulianDate
third = julian (decimal 24577535 1) (decimal 7071109074101659 16)

pub first-before : comparison first second ≡ answer comes_before
unfolding comparison date_order sooner sums exact_sum two_sum_error round add sub neg lt
first-before = refl

pub second-before : comparison second third ≡ answer comes_before
unfolding comparison date_order sooner sums exact_sum two_sum_error round add sub neg lt
second-before = refl

pub third-after : comparison third first ≡ answer comes_after
unfolding comparison date_order sooner sums exact_sum two_sum_error round add sub neg lt
third-after = refl

-- the difference is no order: it takes the first for the second, and the second for the third
pub difference-blind : eq (difference first second) nought ≡ true
unfolding difference round add sub neg eq
difference-blind = refl

pub difference-blind-again : eq (difference second third) nought ≡ true
unfolding difference round add sub neg eq
difference-blind-again = refl

pub divided_twice : comparison (julian (decimal 2451545 0) nought) (julian (decimal 245154475 2) (decimal 25 2)) ≡ answer same_sum
unfolding comparison date_order sooner sums exact_sum two_sum_error round add sub neg lt
divided_twice = refl

pub little-later : comparison (julian (decimal 2451545 0) nought) (julian (decimal 2451545 0) (decimal 1 20)) ≡ answer comes_before
unfolding comparison date_order sooner sums exact_sum two_sum_error round add sub neg lt
little-later = refl

-- a NaN; a sum that overflows; and parts whose sum is finite but not their error, by which document 01's test finds the date unequal to itself
pub nan_refused : comparison (julian (decimal 2451545 0) nan) first ≡ refusal 9
unfolding comparison date_order sooner sums exact_sum two_sum_error round add sub neg lt
nan_refused = refl

abbrev largest : Float
largest = fin false (2 ^ 53 - 1) (pos 971)

pub sum-refused : comparison (julian largest largest) (julian largest largest) ≡ refusal 9
unfolding comparison date_order sooner sums exact_sum two_sum_error round add sub neg lt
sum-refused = refl

-- 2.9937604643020797e292 is 3 * 2 ^ 970
pub error-refused : comparison first (julian (fin false 3 (pos 970)) (neg largest)) ≡ refusal 9
unfolding comparison date_order sooner sums exact_sum two_sum_error round add sub neg lt
error-refused = refl
