-- By which numbers a half millisecond to the even one is decided. Written from document 02, items 4 and 8. Assumes nothing.
use Rattle.std.specs.Prelude.{◌≡◌, false, true, ◌*◌, ◌<◌, ◌^◌, ℕ, T, Float}
use Rattle.std.specs.Float.{binary64}
use Rattle.std.specs.Float.Ieee.{fits}
use Rattle.floats.specs.Whole.{nought, one}
use Rattle.rounding.specs.Value.{InUnit, Val}
use Rattle.time_of_day.specs.ExactTime.{Leap, leap1959, minus_one_f}
use Rattle.time_of_day.specs.HalfEven.{day_is_whole, even, even_count, in_whole}
use Rattle.time_of_day.specs.Milliseconds.{whole_leap}
use Rattle.time_of_day.specs.TimeShown.{count_by, day_end}

-- a fraction f of F units of 2^-52 day, on a day of 86,400, 86,401 or 86,399 s: by whole numbers
pub record ByWholeNumbers (f l : Float) : Type 0 where
  pub whole_numbers : (F : ℕ) → Val f F 0 (2 ^ 52) → F < 2 ^ 52 → day_is_whole l ≡ true → even_count f l ≡ even false (F * day_end l) (2 ^ 52)
  pub whole-days : (day_is_whole nought ≡ true) × (day_is_whole one ≡ true) × (day_is_whole minus_one_f ≡ true)

-- any other fraction, and all of 1959-12-31: by the exact value of the float that document 01's call rounds
pub record ByTheFloat (f l : Float) : Type 0 where
  pub by_the_float : T (fits binary64 f) → InUnit f → Leap l → in_whole f (whole_leap l) ≡ false → even_count f (whole_leap l) ≡ count_by even f (whole_leap l)
  pub not_1959 : day_is_whole (whole_leap leap1959) ≡ false
