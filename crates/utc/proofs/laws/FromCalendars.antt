-- UTC from the calendar by its cases, and what the parts of an answer are. Assumes nothing.
use mathlib.Core.Path.{◌≡◌, ◌∙◌}
use mathlib.Core.Bool.{true}
use mathlib.Core.List.{List}
use Prim.Native.Nat.{ℕ, ◌+◌, ◌*◌, ◌≤◌}
use lib.IntN.{ℤ, pos}
use lib.Ieee.{Float, binary64, of_int, add, mul, div}
use Rattle.refusals.specs.Outcome.{answer, refusal, onward}
use Rattle.floats.specs.Whole.{nought}
use Rattle.constants.specs.Constants.{decimal, seconds_per_day, mjd_zero_point}
use Rattle.calendar.specs.Refusals.{valid_date}
use Rattle.calendar.specs.DayCount.{mjd_number}
use Rattle.calendar.proofs.Mjd.{mjd-refused, mjd-given}
use Rattle.julian.specs.JulianDate.{julian, rounded_sum}
use Rattle.julian.specs.DayFraction.{time_in_day, day_fraction}
use Rattle.julian.specs.Calendar.{from_calendar}
use Rattle.julian.specs.Calendar as Julian
use Rattle.julian.proofs.Midnights.{midnight-refused, midnight-given}
use Rattle.julian.proofs.laws.RoundTrip.{midnight-fraction}
use Rattle.julian.proofs.laws.Clock.{hour-refused, minute-refused}
use Rattle.leap_table.specs.rows.Table.{Row}
use Rattle.leap_table.specs.offsets.Leap.{leap_at_end_of_day}
use Rattle.utc.specs.FromCalendar.{midnight_plus, utc_from_calendar}

-- ---- the cases
module _ (rows : List Row) (y : ℤ) (m d hour minute : ℕ) (second : Float) where
  pub date_refused : (k : ℕ) → valid_date y (pos m) (pos d) ≡ refusal k → utc_from_calendar rows y m d hour minute second ≡ refusal k
  unfolding utc_from_calendar from_calendar onward
  date_refused k e = rw (midnight-refused y (pos m) (pos d) k (mjd-refused y (pos m) (pos d) k e))

  at_midnight : valid_date y (pos m) (pos d) ≡ answer tt
      → from_calendar y m d 0 0 nought ≡ answer (julian (add binary64 mjd_zero_point (of_int binary64 (mjd_number y (pos m) (pos d)))) nought)
  unfolding from_calendar Julian.at_time rounded_sum onward
  at_midnight v = rw (midnight-given y (pos m) (pos d) (mjd_number y (pos m) (pos d)) (mjd-given y (pos m) (pos d) v), midnight-fraction)

  pub leap-refused : valid_date y (pos m) (pos d) ≡ answer tt → (k : ℕ) → leap_at_end_of_day rows y (pos m) (pos d) ≡ refusal k
      → utc_from_calendar rows y m d hour minute second ≡ refusal k
  unfolding utc_from_calendar onward
  leap-refused v k e = rw (at_midnight v, e)

  -- MIDNIGHT in jd1: 2400000.5 plus the Modified Julian Date, rounded once; the fraction of the day in jd2
  pub on-date : valid_date y (pos m) (pos d) ≡ answer tt → (x : Float) → leap_at_end_of_day rows y (pos m) (pos d) ≡ answer x
      → utc_from_calendar rows y m d hour minute second ≡ midnight_plus
      (julian (add binary64 mjd_zero_point (of_int binary64 (mjd_number y (pos m) (pos d)))) nought) (day_fraction hour minute second x)
  unfolding utc_from_calendar onward
  on-date v x e = rw (at_midnight v, e)

  module _ (v : valid_date y (pos m) (pos d) ≡ answer tt) (x : Float) (e : leap_at_end_of_day rows y (pos m) (pos d) ≡ answer x) where
    -- the seconds of the day over its length, 86,400 s plus leap
    pub time-given : time_in_day hour minute second x ≡ true
        → utc_from_calendar rows y m d hour minute second
        ≡ answer (julian (add binary64 mjd_zero_point (of_int binary64 (mjd_number y (pos m) (pos d))))
        (add binary64 nought (div binary64 (add binary64 (mul binary64 (decimal 60 0) (of_int binary64 (pos (60 * hour + minute)))) second)
        (add binary64 seconds_per_day x))))
    unfolding midnight_plus day_fraction onward
    time-given h = on-date v x e ∙ rw h

    -- HOUR 24 AND LATER, AND MINUTE 60 AND LATER, are refused with 4, whatever the day's length
    pub utc-hour-24-refused : 24 ≤ hour → utc_from_calendar rows y m d hour minute second ≡ refusal 4
    unfolding midnight_plus onward
    utc-hour-24-refused h = on-date v x e ∙ rw (hour-refused hour minute second x h)

    pub utc-minute-60-refused : 60 ≤ minute → utc_from_calendar rows y m d hour minute second ≡ refusal 4
    unfolding midnight_plus onward
    utc-minute-60-refused h = on-date v x e ∙ rw (minute-refused hour minute second x h)
