-- UT1 to UTC by DUT1 = UT1 - UTC in seconds: SOFA's iauUt1utc (Time Scale and Calendar Tools), whose order of operations this is, each rounded once; the Rust's
-- scales/conversions/utc_ut1/mod.rs, which follows it, fixes the bits.
-- iauUt1utc, with the larger part big and the smaller one small: for i from -1 to 3, TAI-UTC at 0h of the calendar's date of (big, small + i), and what it is
-- more than that of the i before. At the first i where this step is 0.5 s or more in size: DUT1 less the step where both have one sign (a zero product counts
-- as one sign); of the date's midnight z, the parts z1 and z2 - 1 + DUT1 / 86400 are in UT1 the start of the day that ends with the step; big less the first
-- of them, plus small less the second, are the days since then; where they are above 0, DUT1 plus the step times the part of the day that has passed, days *
-- 86400 / (86400 + step), 1 at most; and no further i. The smaller part less DUT1 / 86400 is UTC's.
-- Document 01, "Refusals by number": 10, 9, then 6 or 1 for each day scanned from -1 to +3 until a step of at least 0.5 s from one scanned day to the next.
-- Assumes nothing.
use Rattle.std.specs.Prelude.{ℕ, zero, suc, ◌+◌, cond, List, pos, negsuc, Float}
use Rattle.std.specs.Float.{binary64}
use Rattle.std.specs.Float.Ieee.{of_int, add, sub, mul, div, lt, le}
use Rattle.refusals.specs.Outcome.{Outcome, answer, onward}
use Rattle.floats.specs.Whole.{abs, nought, half, one}
use Rattle.constants.specs.Constants.{seconds_per_day}
use Rattle.julian.specs.declared.JulianDate.{JulianDate}
use Rattle.julian.specs.Calendar.{julian_to_calendar}
use Rattle.julian.specs.Finite.{finite_jd, finite_arg}
use Rattle.leap_table.specs.rows.Table.{Row}
use Rattle.utc_scales.specs.days.LargerPart.{change_smaller}
use Rattle.utc_scales.specs.days.Dates.{offset_at0h, offset_of_date, midnight_of}
use Rattle.utc_scales.specs.declared.from_ut1.DayScan.{DayScan}
use Rattle.utc_scales.specs.declared.from_ut1.DayScan.TheVariants as Day

-- ---- DUT1 near a step of TAI-UTC by delta at the midnight z

-- less the step, where both have one sign
unfoldable pub before_step : Float → Float → Float
before_step delta dut1 = cond (le nought (mul binary64 delta dut1)) (sub binary64 dut1 delta) dut1

-- the days since the start of the day before z, in UTC by this DUT1
unfoldable pub time_past_leap : Float → Float → JulianDate → Float → Float
time_past_leap big small z dut1 =
    add binary64 (sub binary64 big z.jd1) (sub binary64 small (add binary64 (sub binary64 z.jd2 one) (div binary64 dut1 seconds_per_day)))

-- the Rust's fmin(x, 1.0), which is 1.0 of a NaN
unfoldable pub at_most_one : Float → Float
at_most_one x = cond (lt x one) x one

-- more by the part of the step that has passed
unfoldable pub after_step : Float → Float → Float → Float
after_step past delta dut1 =
    cond (lt nought past)
    (add binary64 dut1 (mul binary64 delta (at_most_one (div binary64 (mul binary64 past seconds_per_day) (add binary64 seconds_per_day delta)))))
    dut1

unfoldable pub near_step : Float → Float → Float → Float → JulianDate → Float
near_step big small dut1 delta z = after_step (time_past_leap big small z (before_step delta dut1)) delta (before_step delta dut1)

-- ---- the scan

-- a scanned day: its TAI-UTC, less than 0.5 s from that of the day before; or DUT1 near its step
pub data Scanned : Type 0 where
  noStep step : Float → Scanned

-- what the code calls it
unfoldable pub scanned : DayScan → Scanned
scanned (Day.NoStep k) = noStep k.seconds
scanned (Day.Step x) = step x

-- the day i days later, where the day before has TAI-UTC `before`
unfoldable pub scan_day : List Row → Float → Float → Float → Float → Float → Outcome Scanned
scan_day rows big small dut1 i before =
    onward (julian_to_calendar big (add binary64 small i)) (λ c.
    onward (offset_at0h rows c.date) (λ x.
    cond (lt (abs (sub binary64 x before)) half) (answer (noStep x))
    (onward (midnight_of c.date) (λ z. answer (step (near_step big small dut1 (sub binary64 x before) z))))))

-- on to the next day, until a step
unfoldable pub until_step : (Float → Outcome Float) → Scanned → Outcome Float
until_step next (noStep x) = next x
until_step next (step dut1) = answer dut1

-- so many days from day i on; with no step DUT1 stays
unfoldable pub scan : List Row → Float → Float → Float → ℕ → ℕ → Float → Outcome Float
scan rows big small dut1 zero i before = answer dut1
scan rows big small dut1 (suc k) i before =
    onward (scan_day rows big small dut1 (of_int binary64 (pos i)) before) (until_step (scan rows big small dut1 k (i + 1)))

-- day -1 is only looked up; the four days from 0 to 3 are each compared with the one before
unfoldable pub adjust_dut1 : List Row → Float → Float → Float → Outcome Float
adjust_dut1 rows big small dut1 = onward (offset_of_date rows big (add binary64 small (of_int binary64 (negsuc 0)))) (scan rows big small dut1 4 0)

unfoldable pub utc_fraction : List Row → Float → Float → Float → Outcome Float
utc_fraction rows dut1 big small = onward (adjust_dut1 rows big small dut1) (λ x. answer (sub binary64 small (div binary64 x seconds_per_day)))

unfoldable pub ut1_to_utc : List Row → JulianDate → Float → Outcome JulianDate
ut1_to_utc rows d dut1 = onward (finite_arg dut1) (λ _. onward (finite_jd d) (change_smaller (utc_fraction rows dut1)))
