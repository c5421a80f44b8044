-- A day that ends a second early: in its last minute UTC from the calendar takes the seconds from 0.0 to below 59.0, and refuses the others with 4.
-- Assumes nothing.
use mathlib.Core.Path.{◌≡◌, refl, ◌∙◌}
use mathlib.Core.Bool.{true, false, ◌&&◌}
use mathlib.Core.List.{List}
use Prim.Native.Nat.{ℕ, ◌+◌, ◌*◌}
use lib.IntN.{ℤ, pos}
use lib.Ieee.{Float, binary64, of_int, of_bits, round, add, mul, div, lt, le}
use Rattle.refusals.specs.Outcome.{answer, refusal, onward}
use Rattle.floats.specs.Whole.{nought}
use Rattle.constants.specs.Constants.{decimal, seconds_per_day, mjd_zero_point}
use Rattle.calendar.specs.Refusals.{valid_date}
use Rattle.calendar.specs.DayCount.{mjd_number}
use Rattle.julian.specs.JulianDate.{julian}
use Rattle.julian.specs.DayFraction.{second_limit, time_in_day, day_fraction}
use Rattle.leap_table.specs.rows.Table.{Row}
use Rattle.leap_table.specs.offsets.Leap.{leap_at_end_of_day}
use Rattle.time_of_day.specs.ExactTime.{minus_one_f}
use Rattle.utc.specs.FromCalendar.{midnight_plus, utc_from_calendar}
use Rattle.utc.proofs.laws.FromCalendars.{on-date, time-given}

limit : second_limit 23 59 minus_one_f ≡ decimal 59 0
unfolding second_limit round add of_bits
limit = refl

pub last-minute : (second : Float) → time_in_day 23 59 second minus_one_f ≡ le nought second && lt second (decimal 59 0)
unfolding time_in_day of_bits
last-minute second = rw limit

module _ (rows : List Row) (y : ℤ) (m d : ℕ) (v : valid_date y (pos m) (pos d) ≡ answer tt) (e : leap_at_end_of_day rows y (pos m) (pos d) ≡ answer minus_one_f)
    (second : Float) where
  pub short-day-refused : le nought second && lt second (decimal 59 0) ≡ false → utc_from_calendar rows y m d 23 59 second ≡ refusal 4
  unfolding midnight_plus day_fraction onward
  short-day-refused h = on-date rows y m d 23 59 second v minus_one_f e ∙ rw (last-minute second ∙ h)

  pub short-day-taken : le nought second && lt second (decimal 59 0) ≡ true
      → utc_from_calendar rows y m d 23 59 second
      ≡ answer (julian (add binary64 mjd_zero_point (of_int binary64 (mjd_number y (pos m) (pos d))))
      (add binary64 nought (div binary64 (add binary64 (mul binary64 (decimal 60 0) (of_int binary64 (pos (60 * 23 + 59)))) second)
      (add binary64 seconds_per_day minus_one_f))))
  short-day-taken h = time-given rows y m d 23 59 second v minus_one_f e (last-minute second ∙ h)
