-- UT1 to UTC from 1972 on, on days with no leap second near. Written from document 01, "Scale dates" and "Refusals by number", and SOFA's Time Scale and
-- Calendar Tools: UTC is UT1 less DUT1, and TAI-UTC is looked up on five days, from the day before the date to three days after it. Assumes nothing.
use Rattle.std.specs.Prelude.{◌≡◌, List, ℕ, ◌+◌, ◌-◌, ◌≤◌, ℤ, pos, negsuc, Float}
use Rattle.std.specs.Float.{binary64}
use Rattle.std.specs.Float.Ieee.{of_int, add}
use Rattle.refusals.specs.Outcome.{answer}
use Rattle.rounding.specs.Value.{Val, L}
use Rattle.julian.specs.day_number.DayNumber.{day_of}
use Rattle.julian.specs.declared.JulianDate.{JulianDate}
use Rattle.julian.specs.JulianDate.{julian}
use Rattle.leap_table.specs.rows.Table.{Row}
use Rattle.scales.specs.laws.Meaning.{Apart, Means, back, later_by}
use Rattle.utc_scales.specs.to_ut1.UtcUt1.{utc_to_ut1}
use Rattle.utc_scales.specs.from_ut1.Ut1Utc.{ut1_to_utc}
use Rattle.utc_scales.specs.round_trip.UtcDays.{seconds_on}

-- the calendar finds a day from 1972 on for the date i days later, and TAI-UTC is D seconds on it
pub record FoundWith (rows : List Row) (D : ℕ) (d : JulianDate) (i : ℤ) : Type 0 where
  pub n : ℕ
  pub from : 2441318 ≤ n
  pub day : (day_of d.jd1 (add binary64 d.jd2 (of_int binary64 i))).day ≡ pos n
  pub seconds : seconds_on rows n ≡ D

-- TAI-UTC is one number of seconds on the five days that are looked up
pub record NoStepFound (rows : List Row) (d : JulianDate) : Type 0 where
  pub D : ℕ
  pub before : FoundWith rows D d (negsuc 0)
  pub first : FoundWith rows D d (pos 0)
  pub second : FoundWith rows D d (pos 1)
  pub third : FoundWith rows D d (pos 2)
  pub fourth : FoundWith rows D d (pos 3)

-- from 1972-01-03 on, and TAI-UTC is the same from 0h of two days before day n to 0h of four days after it: a day more than is looked up at each end, since the
-- calendar may find the next day, or the day before, for a date within picoseconds of midnight
pub record NoLeapNear (rows : List Row) (n : ℕ) : Type 0 where
  pub from : 2441320 ≤ n
  pub same : (i : ℕ) → i ≤ 6 → seconds_on rows (n - 2 + i) ≡ seconds_on rows (n - 2)

-- how far the answer may be off, in picoseconds: one rounding of jd2 is up to 9.6
abbrev pub utc_ps : ℕ
utc_ps = 10

-- UT1 to UTC answers, jd1 is kept, and the answer is UT1 less DUT1
pub record RightUtcOfUt1 (rows : List Row) (ps : ℕ) (d : JulianDate) (dut1 : Float) : Type 0 where
  pub x : ℕ
  pub y : ℕ
  pub offset : Val dut1 x y L
  pub jd2 : Float
  pub is : ut1_to_utc rows d dut1 ≡ answer (julian d.jd1 jd2)
  pub means : Means ps (back (later_by x y)) d (julian d.jd1 jd2)

-- UT1 to UTC of d answers u, UTC to UT1 of u answers t by the same DUT1, and t is within ps picoseconds of d at their exact values
pub record Ut1ThereAndBack (rows : List Row) (ps : ℕ) (d : JulianDate) (dut1 : Float) : Type 0 where
  pub u : JulianDate
  pub t : JulianDate
  pub there : ut1_to_utc rows d dut1 ≡ answer u
  pub back : utc_to_ut1 rows u dut1 ≡ answer t
  pub apart : Apart ps d t
