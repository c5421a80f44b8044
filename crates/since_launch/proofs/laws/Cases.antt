-- Worked cases, by computation: both ends of the range, halves of a millisecond, the order of the refusals, and the bytes of a run. A date is two floats by
-- their bits. Assumes nothing.
use Prim.Native.Nat.{ℕ, zero, suc, ◌+◌}
use mathlib.Core.Path.{◌≡◌, refl}
use mathlib.Core.List.{[], ◌∷◌}
use lib.Ieee.{binary64, of_bits, round, lt, add, sub, mul, div, neg, to_signed}
use Rattle.refusals.specs.Outcome.{Outcome, answer, refusal, onward}
use Rattle.numerals.specs.little_endian.LittleEndian.{four_at, u64_at, eight_bytes}
use Rattle.numerals.specs.little_endian.Written.{all_bytes}
use Rattle.julian.specs.day_number.Answer.{day_number_and_fraction}
use Rattle.julian.specs.JulianDate.{julian}
use Rattle.julian.specs.stamp_lists.Stamps.{stamp_of}
use Rattle.time_of_day.specs.TimeShown.{from_zero}
use Rattle.time_of_day.specs.HalfEven.{grid_units}
use Rattle.since_launch.specs.declared.Place.{Place}
use Rattle.since_launch.specs.Millis.{place_of, place_in, in_range, count_of, since_launch, millis_from_to}
use Rattle.since_launch.specs.Run.{stamp_millis, millis_number_byte, with_millis, with_all, with_millis_numbers, millis_refused, millis_call, millis_written}

-- ---- by units of 2 ^ -52 day

-- half a millisecond is 26062497.8 units: fewer are 0, and more are 1. A tie goes up: 2 ^ 41 units are 42187.5 ms, and go to the even number, and three times
-- as many are 126562.5 ms and go to the odd one
pub halves_up : (count_of 0 26062497 ≡ answer 0) × (count_of 0 26062498 ≡ answer 1) × (count_of 0 2199023255552 ≡ answer 42188)
    × (count_of 0 6597069766656 ≡ answer 126563) × (count_of 0 2199023255551 ≡ answer 42187)
unfolding count_of in_range
halves_up = (refl, refl, refl, refl, refl)

-- up to half a millisecond before the launch is 0, and earlier 18: a millisecond before, and a tie in -42187.5 ms
pub before-launch : (count_of 26062497 0 ≡ answer 0) × (count_of 26062498 0 ≡ refusal 18) × (count_of 52124996 0 ≡ refusal 18)
    × (count_of 2199023255552 0 ≡ refusal 18) × (count_of 7 7 ≡ answer 0)
unfolding count_of in_range
before-launch = (refl, refl, refl, refl, refl)

-- the last that is answered, 2 ^ 40 - 1, and the first that is not: 2 ^ 40 - 1/2 ms are 57312038855778579858.4 units
pub last-and-past : (count_of 5 (5 + 57312038855778579858) ≡ answer 1099511627775) × (count_of 5 (5 + 57312038855778579859) ≡ refusal 18)
unfolding count_of in_range
last-and-past = (refl, refl)

-- ---- by dates

abbrev at : ℕ → ℕ → ℕ → ℕ → Outcome ℕ
at a b c d = millis_from_to (julian (of_bits binary64 a) (of_bits binary64 b)) (julian (of_bits binary64 c) (of_bits binary64 d))

-- from (2444244.5, 0.0) to (2444244.5, 27 / 86400000): 27, though jd2 was rounded and its units are cut down, so that the exact product is below 27
pub own-27 : at 0x4142_a5ea_4000_0000 0 0x4142_a5ea_4000_0000 0x3e94_f8b5_88e3_68f1 ≡ answer 27
unfolding millis_from_to place_in place_of onward count_of in_range grid_units from_zero to_signed mul round day_number_and_fraction of_bits lt add sub div neg
own-27 = refl

-- from (2451545.0, 0.0) to (2451545.25, 0.0), and to (2451545.0, 0.25), six hours; and the way back
pub six-hours : (at 0x4142_b42c_8000_0000 0 0x4142_b42c_a000_0000 0 ≡ answer 21600000)
    × (at 0x4142_b42c_8000_0000 0 0x4142_b42c_8000_0000 0x3fd0_0000_0000_0000 ≡ answer 21600000)
    × (at 0x4142_b42c_a000_0000 0 0x4142_b42c_8000_0000 0 ≡ refusal 18)
unfolding millis_from_to place_in place_of onward count_of in_range grid_units from_zero to_signed mul round day_number_and_fraction of_bits lt add sub div neg
six-hours = (refl, refl, refl)

-- the order of the refusals: a NaN in the stamp before a launch out of the range; the launch, or the stamp, out of the range before 18
pub in_this_order : (at 0x41e6_5a0b_c000_0000 0 0x7ff8_0000_0000_0000 0 ≡ refusal 9) × (at 0x7ff0_0000_0000_0000 0 0x41e6_5a0b_c000_0000 0 ≡ refusal 9)
    × (at 0x41e6_5a0b_c000_0000 0 0x4142_b42c_8000_0000 0 ≡ refusal 6) × (at 0x4142_b42c_8000_0000 0 0x41e6_5a0b_c000_0000 0 ≡ refusal 6)
unfolding millis_from_to place_in place_of onward count_of in_range grid_units from_zero to_signed mul round day_number_and_fraction of_bits lt add sub div neg
in_this_order = (refl, refl, refl, refl)

-- ---- a run

-- the second stamp's milliseconds are those of (3.0, 4.0), and not of (1.0, 2.0)
pub second-stamp : (p : Place) → stamp_millis p (all_bytes eight_bytes (0x3ff0_0000_0000_0000 ∷ 0x4008_0000_0000_0000 ∷ []))
    (all_bytes eight_bytes (0x4000_0000_0000_0000 ∷ 0x4010_0000_0000_0000 ∷ [])) 1
    ≡ since_launch p (julian (of_bits binary64 0x4008_0000_0000_0000) (of_bits binary64 0x4010_0000_0000_0000))
unfolding stamp_of all_bytes u64_at four_at
second-stamp p = refl

-- three stamps: 258 ms, refused by 9, and 1 ms
abbrev three : ℕ → Outcome ℕ
three zero = answer 258
three (suc zero) = refusal 9
three (suc (suc k)) = answer 1

pub three-stamps : millis_written three 3
    (7 ∷ 7 ∷ 7 ∷ 7 ∷ 7 ∷ 7 ∷ 7 ∷ 7 ∷ 8 ∷ 8 ∷ 8 ∷ 8 ∷ 8 ∷ 8 ∷ 8 ∷ 8 ∷ 9 ∷ 9 ∷ 9 ∷ 9 ∷ 9 ∷ 9 ∷ 9 ∷ 9 ∷ 5 ∷ [])
    (4 ∷ 4 ∷ 4 ∷ 4 ∷ [])
    ≡ millis_call (answer 1) (2 ∷ 1 ∷ 0 ∷ 0 ∷ 0 ∷ 0 ∷ 0 ∷ 0 ∷ 8 ∷ 8 ∷ 8 ∷ 8 ∷ 8 ∷ 8 ∷ 8 ∷ 8 ∷ 1 ∷ 0 ∷ 0 ∷ 0 ∷ 0 ∷ 0 ∷ 0 ∷ 0 ∷ 5 ∷ []) (0 ∷ 9 ∷ 0 ∷ 4 ∷ [])
unfolding millis_written with_all with_millis with_millis_numbers millis_number_byte millis_refused
three-stamps = refl
