-- WORKED CASES of the four conversions that read the table, by computation: which part changes on equal sizes, a day with a leap second, and UT1 to UTC before,
-- on and after such a day. Each answer is said by its bits. Assumes nothing.
use mathlib.Core.Path.{◌≡◌, refl, ◌∙◌}
use mathlib.Core.Bool.{false}
use Prim.Native.Nat.{ℕ}
use lib.Ieee.{Float, binary64, round, of_bits, neg}
use Rattle.refusals.specs.Outcome.{answer}
use Rattle.constants.specs.Constants.{decimal}
use Rattle.julian.specs.declared.JulianDate.{JulianDate}
use Rattle.julian.specs.JulianDate.{julian}
use Rattle.leap_table.specs.rows.Table.{fixed}
use Rattle.utc_scales.specs.laws.Twenty.{Twenty, utc_tai, tai_utc, utc-ut1, ut1-utc, answer_of_any}
use Rattle.utc_scales.proofs.laws.Computed.{computed, as_computed}

abbrev bits : ℕ → Float
bits n = of_bits binary64 n

abbrev Gives : Twenty → JulianDate → JulianDate → Type 0
Gives c d x = answer_of_any fixed c d ≡ answer x

given : (c : Twenty) (d x : JulianDate) → computed fixed c d ≡ answer x → Gives c d x
given c d x e = as_computed fixed c d ∙ e

-- ---- on equal sizes jd2 changes: the midnight of 2017-01-01 in two halves
abbrev halves : JulianDate
halves = julian (decimal 122887725 2) (decimal 122887725 2)

-- the first half as it was, beside another jd2
abbrev beside : ℕ → JulianDate
beside n = julian (decimal 122887725 2) (bits n)

abbrev quarter : Float
quarter = decimal 25 2

pub tie_utc_tai : Gives utc_tai halves (beside 0x4132_c04d_401c_10b0)
unfolding computed round of_bits
tie_utc_tai = given utc_tai halves (beside 0x4132_c04d_401c_10b0) refl

pub tie_tai_utc : Gives tai_utc halves (beside 0x4132_c04d_3fe3_ef65)
unfolding computed round of_bits
tie_tai_utc = given tai_utc halves (beside 0x4132_c04d_3fe3_ef65) refl

pub tie_ut1_utc : Gives (ut1-utc quarter) halves (beside 0x4132_c04d_3fff_cf75)
unfolding computed round of_bits
tie_ut1_utc = given (ut1-utc quarter) halves (beside 0x4132_c04d_3fff_cf75) refl

-- UTC to UT1 goes through TAI, where jd2 is then the larger part, so that jd1 changes too
pub tie_utc_ut1 : Gives (utc-ut1 quarter) halves (julian (bits 0x4132_c04d_3fe4_1fdc) (bits 0x4132_c04d_401c_10b0))
unfolding computed round of_bits
tie_utc_ut1 = given (utc-ut1 quarter) halves (julian (bits 0x4132_c04d_3fe4_1fdc) (bits 0x4132_c04d_401c_10b0)) refl

-- ---- 2016-12-31, a day of 86,401 s: at its noon 43,200.5 s have passed, so that TAI is 36.5 s later
abbrev last-of-2016 : Float → JulianDate
last-of-2016 x = julian (decimal 24577535 1) x

pub leap-noon : Gives utc_tai (last-of-2016 (decimal 5 1)) (last-of-2016 (bits 0x3fe0_0375_f31a_ed6a))
unfolding computed round of_bits
leap-noon = given utc_tai (last-of-2016 (decimal 5 1)) (last-of-2016 (bits 0x3fe0_0375_f31a_ed6a)) refl

-- its 23:59:60, the fraction 86400/86401 rounded once, is 2017-01-01 00:00:36 TAI
abbrev second-60 : Float
second-60 = round binary64 false 86400 86401

pub leap-second : Gives utc_tai (last-of-2016 second-60) (last-of-2016 (bits 0x3ff0_01b4_e81b_4e82))
unfolding computed round of_bits
leap-second = given utc_tai (last-of-2016 second-60) (last-of-2016 (bits 0x3ff0_01b4_e81b_4e82)) refl

-- 0h TAI of 2017-01-01, 37 s before it: of the three rounds of TAI to UTC the third still moves the guess, by 5 ns
pub leap-tai : Gives tai_utc (julian (decimal 24577545 1) (decimal 0 0)) (julian (decimal 24577545 1) (bits 0xbf3c_109a_b046_c5d8))
unfolding computed round of_bits
leap-tai = given tai_utc (julian (decimal 24577545 1) (decimal 0 0)) (julian (decimal 24577545 1) (bits 0xbf3c_109a_b046_c5d8)) refl

-- ---- UT1 to UTC about that leap second, with DUT1 -0.4082 s before it and 0.5918 s after
abbrev dut1-before : Float
dut1-before = neg (decimal 4082 4)

abbrev dut1-after : Float
dut1-after = decimal 5918 4

-- at noon of the day before: the step is found, and none of it has passed
pub ut1-day-before : Gives (ut1-utc dut1-before) (julian (decimal 24577525 1) (decimal 5 1)) (julian (decimal 24577525 1) (bits 0x3fe0_0009_e877_6d0f))
unfolding computed round of_bits neg
ut1-day-before = given (ut1-utc dut1-before) (julian (decimal 24577525 1) (decimal 5 1)) (julian (decimal 24577525 1) (bits 0x3fe0_0009_e877_6d0f)) refl

-- at 18h of the day itself: three quarters of it have passed
pub ut1-leap-day : Gives (ut1-utc dut1-before) (last-of-2016 (decimal 75 2)) (last-of-2016 (bits 0x3fe7_fff7_b427_3f6f))
unfolding computed round of_bits neg
ut1-leap-day = given (ut1-utc dut1-before) (last-of-2016 (decimal 75 2)) (last-of-2016 (bits 0x3fe7_fff7_b427_3f6f)) refl

-- at 6h of the day after: all of it has
pub ut1-day-after : Gives (ut1-utc dut1-after) (julian (decimal 24577545 1) (decimal 25 2)) (julian (decimal 24577545 1) (bits 0x3fcf_ffc6_8abb_3103))
unfolding computed round of_bits neg
ut1-day-after = given (ut1-utc dut1-after) (julian (decimal 24577545 1) (decimal 25 2)) (julian (decimal 24577545 1) (bits 0x3fcf_ffc6_8abb_3103)) refl

-- at 6h of the day after with a DUT1 of 0.0, which counts as the one after the leap second: nothing is taken away
pub ut1-no-dut1 : Gives (ut1-utc (decimal 0 0)) (julian (decimal 24577545 1) quarter) (julian (decimal 24577545 1) quarter)
unfolding computed round of_bits
ut1-no-dut1 = given (ut1-utc (decimal 0 0)) (julian (decimal 24577545 1) quarter) (julian (decimal 24577545 1) quarter) refl

-- ---- in the years of drift
-- noon of 1971-12-31, whose step of 0.107758 s is spread over the day
pub step-noon : Gives utc_tai (julian (decimal 24413165 1) (decimal 5 1)) (julian (decimal 24413165 1) (bits 0x3fe0_00f1_62fd_d4fe))
unfolding computed round of_bits
step-noon = given utc_tai (julian (decimal 24413165 1) (decimal 5 1)) (julian (decimal 24413165 1) (bits 0x3fe0_00f1_62fd_d4fe)) refl

-- 6h of 1966-06-15 with DUT1 0.1 s: TAI-UTC is that of 0h, so that UT1 runs ahead by the drift since, 0.648 ms
pub drift-ut1 : Gives (utc-ut1 (decimal 1 1)) (julian (decimal 24392915 1) quarter) (julian (decimal 24392915 1) (bits 0x3fd0_0004_e2cf_4f58))
unfolding computed round of_bits
drift-ut1 = given (utc-ut1 (decimal 1 1)) (julian (decimal 24392915 1) quarter) (julian (decimal 24392915 1) (bits 0x3fd0_0004_e2cf_4f58)) refl

-- ---- which days UT1 to UTC looks at: from the day before to three days on
-- 0h of 2017-01-01 in UT1 is 23:59:60.4 in UTC: the step from the day before is found, of which 0.999993 have passed
pub ut1-new-year : Gives (ut1-utc dut1-after) (julian (decimal 24577545 1) (decimal 0 0)) (julian (decimal 24577545 1) (bits 0xbedc_ba8c_9cee_2b9f))
unfolding computed round of_bits neg
ut1-new-year = given (ut1-utc dut1-after) (julian (decimal 24577545 1) (decimal 0 0)) (julian (decimal 24577545 1) (bits 0xbedc_ba8c_9cee_2b9f)) refl

-- noon of 2016-12-29: the step of the third day on is found, and DUT1 of after it is a second more than that of before
pub ut1-three-days : Gives (ut1-utc dut1-after) (julian (decimal 24577515 1) (decimal 5 1)) (julian (decimal 24577515 1) (bits 0x3fe0_0009_e877_6d0f))
unfolding computed round of_bits neg
ut1-three-days = given (ut1-utc dut1-after) (julian (decimal 24577515 1) (decimal 5 1)) (julian (decimal 24577515 1) (bits 0x3fe0_0009_e877_6d0f)) refl

-- noon of 1959-12-31, which ends in the step of 0.943 s to the first row, with DUT1 0.5 s
pub ut1-first-row : Gives (ut1-utc (decimal 5 1)) (julian (decimal 24369335 1) (decimal 5 1)) (julian (decimal 24369335 1) (bits 0x3fdf_fffe_a0d0_2e5e))
unfolding computed round of_bits
ut1-first-row = given (ut1-utc (decimal 5 1)) (julian (decimal 24369335 1) (decimal 5 1)) (julian (decimal 24369335 1) (bits 0x3fdf_fffe_a0d0_2e5e)) refl
