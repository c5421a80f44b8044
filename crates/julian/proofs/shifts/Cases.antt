-- Closed cases of dates that are moved, by computation: which part changes, by how much, and which refusal is first. Assumes nothing.
use mathlib.Core.Path.{◌≡◌, refl}
use mathlib.Core.Bool.{false}
use Prim.Native.Nat.{ℕ}
use lib.Ieee.{Float, inf, nan, binary64, of_bits, round, add, sub, div, neg, lt}
use Rattle.floats.specs.Whole.{abs}
use Rattle.constants.specs.Constants.{seconds_per_day}
use Rattle.refusals.specs.Outcome.{answer, refusal, onward}
use Rattle.julian.specs.JulianDate.{julian}
use Rattle.julian.specs.Finite.{finite_jd, finite_arg}
use Rattle.julian.specs.shifts.SmallerPart.{first_is_larger, parts_of, put_back, map_smaller_part}
use Rattle.julian.specs.shifts.Shifts.{days_of, plus, minus, changed, converted, finite_offset, finite_both, converted_by}

abbrev bits : ℕ → Float
bits n = of_bits binary64 n

abbrev one : Float
one = bits 0x3ff0_0000_0000_0000

-- 2451545.0 and a quarter of a day, moved by a day, either way
a-day-later : converted (plus one) (julian (bits 0x4142_b42c_8000_0000) (bits 0x3fd0_0000_0000_0000)) ≡ answer
    (julian (bits 0x4142_b42c_8000_0000) (bits 0x3ff4_0000_0000_0000))
unfolding converted onward finite_jd changed map_smaller_part put_back parts_of first_is_larger plus abs lt add round of_bits
a-day-later = refl

a-day-earlier : converted (minus one) (julian (bits 0x4142_b42c_8000_0000) (bits 0x3fd0_0000_0000_0000)) ≡ answer
    (julian (bits 0x4142_b42c_8000_0000) (bits 0xbfe8_0000_0000_0000))
unfolding converted onward finite_jd changed map_smaller_part put_back parts_of first_is_larger minus abs lt sub add neg round of_bits
a-day-earlier = refl

-- the same by 86,400 s
by-seconds : converted_by plus (bits 0x40f5_1800_0000_0000) (julian (bits 0x4142_b42c_8000_0000) (bits 0x3fd0_0000_0000_0000)) ≡ answer
    (julian (bits 0x4142_b42c_8000_0000) (bits 0x3ff4_0000_0000_0000))
unfolding converted_by finite_both finite_offset finite_arg onward finite_jd changed map_smaller_part put_back parts_of first_is_larger days_of seconds_per_day
    plus abs lt
    add div
    round of_bits
by-seconds = refl

-- on equal sizes jd1 changes
equal-sizes : map_smaller_part (plus one) (julian one (bits 0xbff0_0000_0000_0000)) ≡ julian (bits 0x4000_0000_0000_0000) (bits 0xbff0_0000_0000_0000)
unfolding map_smaller_part put_back parts_of first_is_larger plus abs lt add round of_bits
equal-sizes = refl

-- 10 for an offset that is not finite; 9 comes before it
ten : finite_arg nan ≡ refusal 10
unfolding finite_arg
ten = refl

nine-first : finite_both nan (julian (inf false) one) ≡ refusal 9
unfolding finite_both finite_offset finite_arg finite_jd onward of_bits
nine-first = refl
