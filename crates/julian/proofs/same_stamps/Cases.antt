-- Each way in which the same stamp and document 01's equality part, by an example. Assumes nothing.
use mathlib.Core.Path.{◌≡◌, refl}
use Prim.Native.Nat.{ℕ}
use mathlib.Core.Bool.{true, false}
use lib.Ieee.{round, add, sub, sum, neg, eq, of_bits}
use Rattle.julian.specs.Finite.{finite_parts}
use Rattle.julian.specs.Equality.{two_sum_error, exact_sum, sums, equal}
use Rattle.julian.specs.declared.same_stamps.Stamp.{Stamp}
use Rattle.julian.specs.same_stamps.Same.{stamp, same, julian_of}

-- a UTC stamp with these patterns
abbrev pub utc : ℕ → ℕ → Stamp
utc a b = stamp 0 a b

-- (2451545.0, 0.0) and (2451544.75, 0.25): one moment, two stamps
pub two-divisions : (same (utc 0x4142_b42c_8000_0000 0) (utc 0x4142_b42c_6000_0000 0x3fd0_0000_0000_0000) ≡ false)
    × (equal (julian_of (utc 0x4142_b42c_8000_0000 0)) (julian_of (utc 0x4142_b42c_6000_0000 0x3fd0_0000_0000_0000)) ≡ true)
unfolding same julian_of equal sums exact_sum two_sum_error add sub sum neg round eq of_bits
two-divisions = (refl, refl)

-- (2451545.0, 0.0) and (2451545.0, -0.0)
pub two-zeros : (same (utc 0x4142_b42c_8000_0000 0) (utc 0x4142_b42c_8000_0000 0x8000_0000_0000_0000) ≡ false)
    × (equal (julian_of (utc 0x4142_b42c_8000_0000 0)) (julian_of (utc 0x4142_b42c_8000_0000 0x8000_0000_0000_0000)) ≡ true)
unfolding same julian_of equal sums exact_sum two_sum_error add sub sum neg round eq of_bits
two-zeros = (refl, refl)

-- a NaN of one pattern is the same stamp and not equal; of two patterns, neither
pub a-nan : (same (utc 0x7ff8_0000_0000_0000 0) (utc 0x7ff8_0000_0000_0000 0) ≡ true)
    × (equal (julian_of (utc 0x7ff8_0000_0000_0000 0)) (julian_of (utc 0x7ff8_0000_0000_0000 0)) ≡ false)
    × (same (utc 0x7ff8_0000_0000_0000 0) (utc 0x7ff0_0000_0000_0001 0) ≡ false)
    × (julian_of (utc 0x7ff8_0000_0000_0000 0) ≡ julian_of (utc 0x7ff0_0000_0000_0001 0))
unfolding same julian_of equal sums exact_sum two_sum_error add sub sum neg round eq of_bits
a-nan = (refl, refl, refl, refl)

-- (2.9937604643020797e292, -1.7976931348623157e308): finite, with a finite sum, and the error a NaN, because the first part as the sum has it overflows
pub on-the-way : (finite_parts (julian_of (utc 0x7ca8_0000_0000_0000 0xffef_ffff_ffff_ffff)) ≡ true)
    × (same (utc 0x7ca8_0000_0000_0000 0xffef_ffff_ffff_ffff) (utc 0x7ca8_0000_0000_0000 0xffef_ffff_ffff_ffff) ≡ true)
    × (equal (julian_of (utc 0x7ca8_0000_0000_0000 0xffef_ffff_ffff_ffff)) (julian_of (utc 0x7ca8_0000_0000_0000 0xffef_ffff_ffff_ffff)) ≡ false)
unfolding same julian_of equal sums exact_sum two_sum_error add sub sum neg round eq of_bits
on-the-way = (refl, refl, refl)

-- twice the largest f64: the sum overflows, the parts are compared, and the stamp is equal to itself
pub twice-the-largest : (same (utc 0x7fef_ffff_ffff_ffff 0x7fef_ffff_ffff_ffff) (utc 0x7fef_ffff_ffff_ffff 0x7fef_ffff_ffff_ffff) ≡ true)
    × (equal (julian_of (utc 0x7fef_ffff_ffff_ffff 0x7fef_ffff_ffff_ffff)) (julian_of (utc 0x7fef_ffff_ffff_ffff 0x7fef_ffff_ffff_ffff)) ≡ true)
unfolding same julian_of equal sums exact_sum two_sum_error add sub sum neg round eq of_bits
twice-the-largest = (refl, refl)

-- one pair of parts, counted in UTC and in TAI
pub two-scales : (same (utc 0x4142_b42c_8000_0000 0) (stamp 1 0x4142_b42c_8000_0000 0) ≡ false)
unfolding same
two-scales = refl
