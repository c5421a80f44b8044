-- UTC to TAI and back: SOFA's iauUtctai and iauTaiutc (Time Scale and Calendar Tools), whose order of operations this is, each rounded once; the Rust's
-- scales/conversions/utc_tai/mod.rs, which follows them, fixes the bits. Document 01, "Scale dates": TAI to UTC does exactly three rounds.
-- iauUtctai, with the larger part big and the smaller one small: the calendar's date and fraction of (big, small); TAI-UTC of that date at 0h, at 12h and at
-- 0h of the next date; twice the difference of the first two is the drift of the day, and what the third is more than the first and the drift is the leap; the
-- fraction times (86400 + leap) / 86400, then times (86400 + drift) / 86400; from the two parts of the date's midnight z: z1 less big, plus z2, plus the sum
-- of the stretched fraction and TAI-UTC at 0h in days. That is the new smaller part.
-- iauTaiutc: the guess is the smaller part of TAI; three times, the guess with big through iauUtctai, and the guess plus (big less the larger part that comes
-- out), plus (small less the smaller part that comes out).
-- SOFA finds the next date from big + 1.5 and the smaller part less the fraction, here it is the date that the calendar names next: the same one for parts
-- below 2 ^ 52 in size (docs/DIFFERENCES.md, 31). Assumes nothing.
use Rattle.std.specs.Prelude.{ℕ, zero, suc, List, Float}
use Rattle.std.specs.Float.{binary64}
use Rattle.std.specs.Float.Ieee.{add, sub, mul, div}
use Rattle.refusals.specs.Outcome.{Outcome, answer, onward}
use Rattle.constants.specs.Constants.{seconds_per_day}
use Rattle.julian.specs.declared.JulianDate.{JulianDate}
use Rattle.julian.specs.JulianDate.{julian}
use Rattle.julian.specs.Calendar.{julian_to_calendar}
use Rattle.leap_table.specs.declared.offsets.DayOffsets.{DayOffsets}
use Rattle.leap_table.specs.rows.Table.{Row}
use Rattle.leap_table.specs.offsets.Leap.{drift_rate, leap_amount}
use Rattle.utc_scales.specs.days.LargerPart.{change_smaller}
use Rattle.utc_scales.specs.days.Dates.{offsets_of, midnight_of}

-- the fraction of a day in days of 86,400 s: the day is longer by the leap at its end, the first factor, and by its drift, the second
unfoldable pub stretch_day_fraction : DayOffsets → Float → Float
stretch_day_fraction o f =
    mul binary64 (mul binary64 f (div binary64 (add binary64 seconds_per_day (leap_amount o)) seconds_per_day))
    (div binary64 (add binary64 seconds_per_day (drift_rate o)) seconds_per_day)

-- the smaller part in TAI, from the midnight z, the offsets of the day, and the fraction of it that has passed
unfoldable pub tai_from_midnight : Float → JulianDate → DayOffsets → Float → Float
tai_from_midnight big z o f =
    add binary64 (add binary64 (sub binary64 z.jd1 big) z.jd2)
    (add binary64 (stretch_day_fraction o f) (div binary64 o.at_0h seconds_per_day))

-- refusals: 6, then the date's
unfoldable pub tai_fraction : List Row → Float → Float → Outcome Float
tai_fraction rows big small =
    onward (julian_to_calendar big small) (λ c.
    onward (offsets_of rows c.date) (λ o.
    onward (midnight_of c.date) (λ z.
    answer (tai_from_midnight big z o c.fraction))))

unfoldable pub utc_to_tai : List Row → JulianDate → Outcome JulianDate
utc_to_tai rows d = change_smaller (tai_fraction rows) d

-- a guess of the smaller part in UTC, moved by what its TAI is off
unfoldable pub moved : Float → Float → Float → JulianDate → Float
moved big small guess tai = add binary64 (add binary64 guess (sub binary64 big tai.jd1)) (sub binary64 small tai.jd2)

-- one round
unfoldable pub refined : List Row → Float → Float → Float → Outcome Float
refined rows big small guess = onward (utc_to_tai rows (julian big guess)) (λ tai. answer (moved big small guess tai))

unfoldable pub rounds : List Row → Float → Float → ℕ → Float → Outcome Float
rounds rows big small zero guess = answer guess
rounds rows big small (suc k) guess = onward (refined rows big small guess) (rounds rows big small k)

-- three rounds; the first guess is TAI's smaller part
unfoldable pub refine_utc_fraction : List Row → Float → Float → Outcome Float
refine_utc_fraction rows big small = rounds rows big small 3 small

unfoldable pub tai_to_utc : List Row → JulianDate → Outcome JulianDate
tai_to_utc rows d = change_smaller (refine_utc_fraction rows) d
