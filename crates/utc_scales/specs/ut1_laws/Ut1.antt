-- UTC and UT1 from 1972 on. Written from document 01, "Scale dates", and SOFA's Time Scale and Calendar Tools: UT1 is UTC and DUT1, and DUT1 grows by the leap
-- second at its midnight, so that on a day of 86,401 s, which UTC spreads over one day, UT1 runs ahead of UTC and DUT1 by the part of the leap second that has
-- passed. Assumes nothing.
use Rattle.std.specs.Prelude.{◌≡◌, List, ℕ, ◌+◌, ◌-◌, ◌*◌, pos, Float}
use Rattle.refusals.specs.Outcome.{answer}
use Rattle.rounding.specs.Value.{Val, L}
use Rattle.julian.specs.day_number.DayNumber.{day_of}
use Rattle.julian.specs.day_number.Answer.{day_number_and_fraction}
use Rattle.julian.specs.declared.JulianDate.{JulianDate}
use Rattle.leap_table.specs.rows.Table.{Row}
use Rattle.scales.specs.laws.Meaning.{Meaning, Means}
use Rattle.utc_scales.specs.to_ut1.UtcUt1.{utc_to_ut1}
use Rattle.utc_scales.specs.round_trip.UtcDays.{H, leap_after, short_after}

-- on day n, which ends with s seconds more of TAI-UTC, s being 0, 1 or -1, and with a DUT1 of (x - y) / L seconds: UT1 = UTC + (DUT1 + s * (UTC + 1/2 - n)) /
-- 86400 days
abbrev pub ut1_over_utc : List Row → ℕ → ℕ → ℕ → Meaning
ut1_over_utc rows n x y = record {
  num = 86400 + leap_after rows n - short_after rows n;
  den = 86400;
  more = x + (leap_after rows n * H + short_after rows n * (n * L));
  less = y + (leap_after rows n * (n * L) + short_after rows n * H);
}

-- how far the answer may be off, in picoseconds
abbrev pub ut1_ps : ℕ
ut1_ps = 87

-- UTC to UT1 answers, and the answer is the UT1 of d by this DUT1, on the day n that the calendar finds for d. In the last picoseconds of a day the calendar
-- may find the next, and where a leap second, inserted or left out, lies between the two this matters: DUT1 is another there, by 1 s.
pub record RightUt1 (rows : List Row) (ps : ℕ) (d : JulianDate) (dut1 : Float) : Type 0 where
  pub x : ℕ
  pub y : ℕ
  pub offset : Val dut1 x y L
  pub n : ℕ
  pub found : day_number_and_fraction d.jd1 d.jd2 ≡ answer (day_of d.jd1 d.jd2)
  pub day : (day_of d.jd1 d.jd2).day ≡ pos n
  pub date : JulianDate
  pub is : utc_to_ut1 rows d dut1 ≡ answer date
  pub means : Means ps (ut1_over_utc rows n x y) d date
