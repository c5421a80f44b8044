-- The tests of a time and of a date's sum, as the code makes them. Assumes nothing.
use Prim.Native.Nat.{ℕ, ◌≤◌, ◌<◌}
use mathlib.Core.Path.{◌≡◌}
use mathlib.Core.Bool.{true, false}
use lib.Ieee.{Float, le, add, binary64}
use borrow.Author.Tests.{le-leb, lt-leb}
use Rattle.julian.specs.day_number.DayNumber.{in_julian_range, c_djmin, c_djmax}
use Rattle.julian.specs.JulianDate.{rounded_sum}
use Rattle.reasons.specs.declared.sentences.Named.TheVariants.{NoField, Hour, Minute, Sum}
use Rattle.reasons.specs.Offending.{time_field, sum_field}

module _ (hour minute : ℕ) (second leap : Float) where
  pub hour-wrong : 23 < hour → Hour hour ≡ time_field hour minute second leap
  unfolding time_field
  hour-wrong h = rw (lt-leb hour 23 h)

  pub minute-wrong : hour ≤ 23 → 59 < minute → Minute minute ≡ time_field hour minute second leap
  unfolding time_field
  minute-wrong h m = rw (le-leb hour 23 h, lt-leb minute 59 m)

module _ (a b : Float) where
  pub sum-passes : le c_djmin (add binary64 a b) ≡ true → le (add binary64 a b) c_djmax ≡ true → NoField ≡ sum_field a b
  unfolding sum_field in_julian_range rounded_sum
  sum-passes l h = rw (l, h)

  pub sum_low : le c_djmin (add binary64 a b) ≡ false → Sum (add binary64 a b) ≡ sum_field a b
  unfolding sum_field in_julian_range rounded_sum
  sum_low l = rw l

  pub sum-high : le c_djmin (add binary64 a b) ≡ true → le (add binary64 a b) c_djmax ≡ false → Sum (add binary64 a b) ≡ sum_field a b
  unfolding sum_field in_julian_range rounded_sum
  sum-high l h = rw (l, h)
