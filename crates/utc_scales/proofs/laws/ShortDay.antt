-- A DAY THAT ENDS A SECOND EARLY, by computation: 2029-12-31 by the table of `ShortTable`, of 86,399 s. Its leap, UTC to TAI and back, and UT1 to UTC before,
-- on and after the day. Each answer is said by its bits. Assumes nothing.
use mathlib.Core.Path.{◌≡◌, refl, ◌∙◌}
use mathlib.Core.Bool.{false}
use Prim.Native.Nat.{ℕ}
use lib.IntN.{pos}
use lib.Ieee.{Float, binary64, round, of_bits, of_int, add, sub, mul, neg, le}
use Rattle.refusals.specs.Outcome.{answer, onward}
use Rattle.floats.specs.Whole.{nought, one}
use Rattle.constants.specs.Constants.{decimal}
use Rattle.calendar.specs.Calendar.{next, leap_size, lengths, days_in_month}
use Rattle.calendar.specs.Refusals.{valid_date, next_of}
use Rattle.calendar.specs.DayCount.{civil_count, mjd_number, mjd_of}
use Rattle.julian.specs.declared.JulianDate.{JulianDate}
use Rattle.julian.specs.JulianDate.{julian}
use Rattle.leap_table.specs.rows.Table.{fixed, month_number, reached}
use Rattle.leap_table.specs.rows.Announced.{rows_to, announced_size, table_of}
use Rattle.leap_table.specs.offsets.Offset.{seconds_of, by_row, offset_by, offset_at, in_day, tai_utc_offset}
use Rattle.leap_table.specs.offsets.Leap.{day_offsets, leap_of, leap_at_end_of_day}
use Rattle.utc_scales.specs.laws.Twenty.{Twenty, utc_tai, tai_utc, ut1-utc, announced_answer}
use Rattle.utc_scales.specs.laws.ShortTable.{short_table, short_rows}
use Rattle.utc_scales.proofs.laws.Computed.{computed, as_computed}
use Rattle.utc_scales.proofs.laws.AnnouncedCalls.{by-its-rows}

pub short-taken : table_of short_table ≡ answer short_rows
unfolding table_of rows_to announced_size fixed short_table
short-taken = refl

-- ---- the leaps: -1.0 at the end of 2029, 1.0 on 2035-06-30 and 0.0 the day before the first
abbrev bits : ℕ → Float
bits n = of_bits binary64 n

pub short-leap : leap_at_end_of_day short_rows (pos 2029) (pos 12) (pos 31) ≡ answer (bits 0xbff0_0000_0000_0000)
unfolding leap_at_end_of_day leap_of day_offsets next_of next tai_utc_offset onward mjd_of mjd_number civil_count valid_date days_in_month lengths leap_size
    offset_at offset_by
    by_row seconds_of round of_bits of_int add sub mul in_day le fixed month_number reached
short-leap = refl

pub long-leap : leap_at_end_of_day short_rows (pos 2035) (pos 6) (pos 30) ≡ answer one
unfolding leap_at_end_of_day leap_of day_offsets next_of next tai_utc_offset onward mjd_of mjd_number civil_count valid_date days_in_month lengths leap_size
    offset_at offset_by
    by_row seconds_of round of_bits of_int add sub mul in_day le fixed month_number reached
long-leap = refl

pub no_leap : leap_at_end_of_day short_rows (pos 2029) (pos 12) (pos 30) ≡ answer nought
unfolding leap_at_end_of_day leap_of day_offsets next_of next tai_utc_offset onward mjd_of mjd_number civil_count valid_date days_in_month lengths leap_size
    offset_at offset_by
    by_row seconds_of round of_bits of_int add sub mul in_day le fixed month_number reached
no_leap = refl

-- ---- the conversions
abbrev Gives : Twenty → JulianDate → JulianDate → Type 0
Gives c d x = announced_answer short_table c d ≡ answer x

given : (c : Twenty) (d x : JulianDate) → computed short_rows c d ≡ answer x → Gives c d x
given c d x e = by-its-rows short_table short_rows short-taken c d ∙ as_computed short_rows c d ∙ e

abbrev last-of-2029 : Float → JulianDate
last-of-2029 x = julian (decimal 24625015 1) x

abbrev first-of-2030 : Float → JulianDate
first-of-2030 x = julian (decimal 24625025 1) x

-- at its noon 43,199.5 s have passed, so that TAI is 36.5 s later; and back
pub short-noon : Gives utc_tai (last-of-2029 (decimal 5 1)) (last-of-2029 (bits 0x3fe0_0375_f31a_ed6b))
unfolding computed round of_bits
short-noon = given utc_tai (last-of-2029 (decimal 5 1)) (last-of-2029 (bits 0x3fe0_0375_f31a_ed6b)) refl

pub short-noon-back : Gives tai_utc (last-of-2029 (bits 0x3fe0_0375_f31a_ed6b)) (last-of-2029 (decimal 5 1))
unfolding computed round of_bits
short-noon-back = given tai_utc (last-of-2029 (bits 0x3fe0_0375_f31a_ed6b)) (last-of-2029 (decimal 5 1)) refl

-- its last second 23:59:58, the fraction 86398/86399 rounded once, is 2030-01-01 00:00:35 TAI, and midnight a second later
pub short_second : Gives utc_tai (last-of-2029 (round binary64 false 86398 86399)) (last-of-2029 (bits 0x3ff0_01a8_c536_fe1b))
unfolding computed round of_bits
short_second = given utc_tai (last-of-2029 (round binary64 false 86398 86399)) (last-of-2029 (bits 0x3ff0_01a8_c536_fe1b)) refl

pub short-midnight : Gives utc_tai (first-of-2030 (decimal 0 0)) (first-of-2030 (bits 0x3f3b_4e81_b4e8_1b4f))
unfolding computed round of_bits
short-midnight = given utc_tai (first-of-2030 (decimal 0 0)) (first-of-2030 (bits 0x3f3b_4e81_b4e8_1b4f)) refl

-- 0h TAI of 2030-01-01, 36 s before it and on the day itself
pub short-tai : Gives tai_utc (first-of-2030 (decimal 0 0)) (first-of-2030 (bits 0xbf3b_4e96_6b65_9b4f))
unfolding computed round of_bits
short-tai = given tai_utc (first-of-2030 (decimal 0 0)) (first-of-2030 (bits 0xbf3b_4e96_6b65_9b4f)) refl

-- ---- UT1 to UTC, with DUT1 0.4082 s before the step and -0.5918 s after
abbrev dut1-before : Float
dut1-before = decimal 4082 4

abbrev dut1-after : Float
dut1-after = neg (decimal 5918 4)

-- at noon of the day before: the step is found, and none of it has passed
pub short-ut1-before : Gives (ut1-utc dut1-before) (julian (decimal 24625005 1) (decimal 5 1)) (julian (decimal 24625005 1) (bits 0x3fdf_ffec_2f11_25e2))
unfolding computed round of_bits
short-ut1-before = given (ut1-utc dut1-before) (julian (decimal 24625005 1) (decimal 5 1)) (julian (decimal 24625005 1) (bits 0x3fdf_ffec_2f11_25e2)) refl

-- at 18h of the day itself: three quarters of it have passed
pub short-ut1-day : Gives (ut1-utc dut1-before) (last-of-2029 (decimal 75 2)) (last-of-2029 (bits 0x3fe8_0008_4be5_5690))
unfolding computed round of_bits
short-ut1-day = given (ut1-utc dut1-before) (last-of-2029 (decimal 75 2)) (last-of-2029 (bits 0x3fe8_0008_4be5_5690)) refl

-- at 6h of the day after: all of it has
pub short-ut1-after : Gives (ut1-utc dut1-after) (first-of-2030 (decimal 25 2)) (first-of-2030 (bits 0x3fd0_001c_baa2_677f))
unfolding computed round of_bits neg
short-ut1-after = given (ut1-utc dut1-after) (first-of-2030 (decimal 25 2)) (first-of-2030 (bits 0x3fd0_001c_baa2_677f)) refl
