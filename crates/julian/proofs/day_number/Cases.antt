-- Document 01's cases of the day and the fraction, and cases at the edges, computed from the definition. Assumes nothing.
use mathlib.Core.Path.{◌≡◌, refl}
use mathlib.Core.Bool.{true, false}
use Prim.Native.Nat.{ℕ}
use lib.IntN.{ℤ, pos, negsuc}
use lib.Ieee.{nan, inf, binary64, of_bits, lt, add, sub, div, neg}
use Rattle.refusals.specs.Outcome.{Outcome, answer, refusal}
use Rattle.julian.specs.declared.day_number.DayNumber.{DayNumber}
use Rattle.julian.specs.day_number.Answer.{day_number_and_fraction}

-- the outcome of two floats by their bits
abbrev pub at : ℕ → ℕ → Outcome DayNumber
at x y = day_number_and_fraction (of_bits binary64 x) (of_bits binary64 y)

-- a day, and a fraction by its bits
abbrev pub is : ℤ → ℕ → Outcome DayNumber
is z f = answer (record { day = z; fraction = of_bits binary64 f })

-- (2451545.0, 0.0), (2451544.75, 0.25) and (0.0, 2451545.0) are noon of day 2451545, 2000-01-01
pub noon : (at 0x4142b42c80000000 0 ≡ is (pos 2451545) 0x3fe0000000000000) × (at 0x4142b42c60000000 0x3fd0000000000000 ≡ is (pos 2451545) 0x3fe0000000000000)
    × (at 0 0x4142b42c80000000 ≡ is (pos 2451545) 0x3fe0000000000000)
unfolding day_number_and_fraction of_bits lt add sub div neg
noon = (refl, refl, refl)

-- (-68569.5, 0.0) is the midnight of day -68569, -4900-03-01; with -2 ^ -52 it passes, since the sum rounds, and is in the day before
pub first-day : (at 0xc0f0bd9800000000 0 ≡ is (negsuc 68568) 0) × (at 0xc0f0bd9800000000 0xbcb0000000000000 ≡ is (negsuc 68569) 0x3feffffffffffffe)
unfolding day_number_and_fraction of_bits lt add sub div neg
first-day = (refl, refl)

-- with -2 ^ -54 the exact fraction is 1 - 2 ^ -54, which no float is: it rounds to 1.0 and carries; with -2 ^ -53 it is the largest float below 1.0, and stays
pub carries : (at 0xc0f0bd9800000000 0xbc90000000000000 ≡ is (negsuc 68568) 0)
    × (at 0xc0f0bd9800000000 0xbca0000000000000 ≡ is (negsuc 68569) 0x3fefffffffffffff)
unfolding day_number_and_fraction of_bits lt add sub div neg
carries = (refl, refl)

-- (2 ^ 63, -2 ^ 63): the casts to 64 bits saturate to 2 ^ 63 - 1 and -2 ^ 63, so the noon of day 0 is answered as that of day -1, -4713-11-23
pub saturates : at 0x43e0000000000000 0xc3e0000000000000 ≡ is (negsuc 0) 0x3fe0000000000000
unfolding day_number_and_fraction of_bits lt add sub div neg
saturates = refl

-- 1e9 is the noon of day 10 ^ 9, and the next float after it is refused
pub last-day : (at 0x41cdcd6500000000 0 ≡ is (pos 1000000000) 0x3fe0000000000000) × (at 0x41cdcd6500000001 0 ≡ refusal 6)
unfolding day_number_and_fraction of_bits lt add sub div neg
last-day = (refl, refl)

-- a NaN, and an infinity less an infinity
pub not_a_number : (day_number_and_fraction nan (of_bits binary64 0) ≡ refusal 6) × (day_number_and_fraction (inf false) (inf true) ≡ refusal 6)
unfolding day_number_and_fraction of_bits lt add sub div neg
not_a_number = (refl, refl)
