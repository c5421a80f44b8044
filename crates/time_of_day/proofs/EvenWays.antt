-- A HALF MILLISECOND TO THE EVEN ONE is decided by whole numbers on the grid, and else by the float's exact value. Assumes nothing.
use mathlib.Core.Path.{◌≡◌, sym, ◌∙◌}
use mathlib.Core.Bool.{false}
use lib.Ieee.{Float, lt, of_bits}
use Rattle.floats.specs.Whole.{abs}
use Rattle.time_of_day.specs.ExactTime.{leap1959}
use Rattle.time_of_day.specs.HalfEven.{day_is_whole}
use Rattle.time_of_day.specs.Milliseconds.{whole_leap}
use Rattle.time_of_day.specs.EvenWays.{ByTheFloat, ByWholeNumbers}
use Rattle.time_of_day.proofs.Fractions.{in_units, within-one}
use Rattle.time_of_day.proofs.EvenSteps.{count-by-float}
use Rattle.time_of_day.proofs.EvenFloat.{by-float}
use Rattle.time_of_day.proofs.EvenExact.{in_whole_numbers, not_1959, whole-0, whole-1, whole-minus-1}

-- the leap of 1959-12-31 counts, and is no whole second
float-on-1959 : day_is_whole (whole_leap leap1959) ≡ false
unfolding whole_leap lt abs of_bits
float-on-1959 = not_1959

pub by-whole-numbers : (f l : Float) → ByWholeNumbers f l
by-whole-numbers f l = record { whole_numbers = λ F v h. in_whole_numbers f F v h l; whole-days = (whole-0, whole-1, whole-minus-1) }

pub by_the_float : (f l : Float) → ByTheFloat f l
by_the_float f l = record {
  by_the_float = λ g i s h. sym (count-by-float f _ h) ∙ by-float f _ (in_units f g i) (within-one l s);
  not_1959 = float-on-1959;
}
