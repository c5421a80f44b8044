-- Milliseconds with a half to the even one. Written from document 02, item 4: decided on whole numbers for a fraction that is a multiple of 2 ^ -52, on days of
-- whole seconds; else by the exact value of the float that document 01's call rounds. Assumes nothing.
use Rattle.std.specs.Prelude.{ℕ, ◌+◌, ◌*◌, ◌/◌, ◌%◌, Bool, true, false, cond, pos, eqb, ltb, Float}
use Rattle.std.specs.Float.{binary64}
use Rattle.std.specs.Float.Ieee.{of_bits, of_int, mul, eq, to_signed}
use Rattle.floats.specs.Whole.{abs, nought, one}
use Rattle.time_of_day.specs.Milliseconds.{thousand_f, fraction_seconds}
use Rattle.time_of_day.specs.TimeShown.{day_end, from_zero}

-- 4503599627370496.0, which is 2 ^ 52, and 2.0
abbrev pub two52_f : Float
two52_f = of_bits binary64 0x4330_0000_0000_0000

abbrev pub two-f : Float
two-f = of_bits binary64 0x4000_0000_0000_0000

-- a whole number and a rest r / d: the nearest whole number, and of two the even one
unfoldable pub nearest_even : ℕ → ℕ → ℕ → ℕ
nearest_even whole r d = cond (eqb (2 * r) d) (whole + whole % 2) (cond (ltb (2 * r) d) whole (whole + 1))

-- as a rule of rounding: n / d
abbrev pub even : Bool → ℕ → ℕ → ℕ
even s n d = nearest_even (n / d) (n % d) d

-- the units of 2 ^ -52 day in a fraction, toward zero: the product with 2 ^ 52 has no rounding
unfoldable pub grid_units : Float → ℕ
grid_units fraction = from_zero (to_signed 63 (mul binary64 fraction two52_f))

-- whether a float is worth the whole number n, below 2 ^ 52
unfoldable pub worth : ℕ → Float → Bool
worth n x = cond (ltb n 4503599627370496) (eq (of_int binary64 (pos n)) x) false

-- whether a day with the leap that counts has whole seconds: 86,400, 86,401 or 86,399
unfoldable pub day_is_whole : Float → Bool
day_is_whole leap = cond (eq leap nought) true (eq (abs leap) one)

-- twice the float that document 01's call rounds, and how many half milliseconds it has, toward zero
unfoldable pub twice : Float → Float → Float
twice fraction leap = mul binary64 two-f (mul binary64 thousand_f (fraction_seconds fraction leap))

unfoldable pub half_millis : Float → Float → ℕ
half_millis fraction leap = from_zero (to_signed 63 (twice fraction leap))

-- j half milliseconds, and more where they are not all: the nearest millisecond, and of two the even one
unfoldable pub of_halves : ℕ → Bool → ℕ
of_halves j all = cond (eqb (j % 2) 0) (j / 2) (cond all (j / 2 + j / 2 % 2) (j / 2 + 1))

unfoldable pub float_count : Float → Float → ℕ
float_count fraction leap = of_halves (half_millis fraction leap) (worth (half_millis fraction leap) (twice fraction leap))

-- whether whole numbers decide: the fraction is its units, and the day has whole seconds
unfoldable pub in_whole : Float → Float → Bool
in_whole fraction leap = cond (worth (grid_units fraction) (mul binary64 fraction two52_f)) (day_is_whole leap) false

-- the milliseconds of a fraction of a day with the leap that counts; on a day of whole seconds `day_end` is its length
unfoldable pub even_count : Float → Float → ℕ
even_count fraction leap = cond (in_whole fraction leap) (even false (grid_units fraction * day_end leap) 4503599627370496) (float_count fraction leap)
