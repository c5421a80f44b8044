-- UTC from Unix time by its cases: the nanoseconds refused, the day refused by the calendar, and the time on the day's date. Assumes nothing.
use mathlib.Core.Path.{◌≡◌, ap, ◌∙◌}
use Prim.Native.Nat.{ℕ, ◌/◌, ◌%◌}
use mathlib.Core.Bool.{true, false}
use mathlib.Core.List.{List}
use lib.Dec.{ltb}
use lib.IntN.{ℤ}
use lib.Ieee.{Float, binary64, of_int}
use Rattle.refusals.specs.Outcome.{answer, refusal, onward}
use Rattle.constants.specs.Constants.{unix_epoch_jd}
use Rattle.julian.specs.declared.CalendarFields.{CalendarFields}
use Rattle.julian.specs.Calendar.{julian_to_calendar}
use Rattle.leap_table.specs.rows.Table.{Row}
use Rattle.utc.specs.FromCalendar.{utc_from_calendar}
use Rattle.utc.specs.UnixTime.{unix_day, second_of_unix_day, second_with_nanos, utc_new}

module _ (rows : List Row) (seconds : ℤ) (nanos : ℕ) where
  pub nanos-refused : ltb nanos 1000000000 ≡ false → utc_new rows seconds nanos ≡ refusal 8
  unfolding utc_new
  nanos-refused e = rw e

  pub day-refused : ltb nanos 1000000000 ≡ true → (k : ℕ) → julian_to_calendar unix_epoch_jd (of_int binary64 (unix_day seconds)) ≡ refusal k
      → utc_new rows seconds nanos ≡ refusal k
  unfolding utc_new onward
  day-refused e k p = rw (e, p)

  pub day-given : ltb nanos 1000000000 ≡ true → (c : CalendarFields) → julian_to_calendar unix_epoch_jd (of_int binary64 (unix_day seconds)) ≡ answer c
      → (y : ℤ) (s : ℕ) (x : Float)
      → y ≡ c.date.year → s ≡ second_of_unix_day seconds → x ≡ second_with_nanos s nanos
      → utc_from_calendar rows y c.date.month c.date.day (s / 3600) (s % 3600 / 60) x ≡ utc_new rows seconds nanos
  unfolding utc_new onward
  day-given e c p y s x ey es ex =
      rw (e, p) (λ i. utc_from_calendar rows (ey i) c.date.month c.date.day (es i / 3600) (es i % 3600 / 60)
      ((ex ∙ ap (λ (k : ℕ). second_with_nanos k nanos) es) i))
