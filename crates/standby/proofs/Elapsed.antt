-- ELAPSED TIME IS ELAPSED TIME: within a day the exact TAI goes as the clock, and from midnight to midnight by 86,400 s and the step of TAI-UTC, on every date
-- from 1972 on and by every rows. Assumes nothing.
use mathlib.Core.Path.{◌≡◌, ap, sym, subst, ◌∙◌}
use mathlib.Core.Bool.{false, true≢false}
use mathlib.Core.List.{List}
use Prim.Native.Nat.{ℕ, suc, ◌+◌, ◌*◌}
use native.Mathlib.Omega.{arith}
use lib.IntN.{ℤ, pos, negsuc, nat_abs, suc_ℤ}
use lib.Signed.{lt_z}
use borrow.Author.Tests.{ltb-false, le-ltb}
use Rattle.refusals.specs.Outcome.{answer}
use Rattle.calendar.specs.declared.CalendarDate.{CalendarDate}
use Rattle.calendar.specs.Calendar.{date}
use Rattle.calendar.specs.Refusals.{next_of}
use Rattle.calendar.proofs.Mjd.{mjd-given, same_answer}
use Rattle.calendar.proofs.NextDates.{next-is, next-accepted, next-mjd}
use Rattle.calendar.proofs.Years.{next-keeps}
use Rattle.leap_table.specs.rows.Table.{Row}
use Rattle.standby.specs.declared.UtcTime.{UtcTime}
use Rattle.standby.specs.Times.{offset_on_date, offset_after, time_seconds, mjd_day, tai_ms}
use Rattle.standby.specs.Elapsed.{day_start, date_start, clock_ms}
use Rattle.standby.proofs.Times.{mjd-natural}

pub by-clock : (rows : List Row) (t : UtcTime) → tai_ms rows t ≡ tai_ms rows (day_start t) + clock_ms t
unfolding tai_ms time_seconds
by-clock rows t = omega arith

pub year-later : (z : ℤ) → lt_z z (pos 1972) ≡ false → lt_z (suc_ℤ z) (pos 1972) ≡ false
year-later (pos n) e = le-ltb (suc n) 1972 (omega (arith, ltb-false n 1972 e))
year-later (negsuc n) e = absurd (true≢false e)

module _ (t : UtcTime) (from : lt_z t.year (pos 1972) ≡ false) (next : CalendarDate)
    (has_next : next_of t.year (pos t.month) (pos t.day) ≡ answer next) where
  -- the next date is from 1972 on too, and a day later
  pub next-from : lt_z next.year (pos 1972) ≡ false
  next-from =
      subst (λ (x : CalendarDate). lt_z x.year (pos 1972) ≡ false) (sym (next-is t.year (pos t.month) (pos t.day) next has_next).1)
      (next-keeps (λ x. lt_z x (pos 1972) ≡ false) year-later (date t.year t.month t.day) from)

  pub day-after : mjd_day (date_start next) ≡ mjd_day t + 1
  day-after =
      let v = (next-is t.year (pos t.month) (pos t.day) next has_next).0 in
      let e = next-mjd t.year (pos t.month) (pos t.day) next has_next _ (mjd-given t.year (pos t.month) (pos t.day) v) in
      let w = next-accepted t.year (pos t.month) (pos t.day) next has_next in
      let f = mjd-given next.year (pos next.month) (pos next.day) w in
      ap nat_abs (same_answer (sym f ∙ e) ∙ ap suc_ℤ (mjd-natural t.year (pos t.month) (pos t.day) from)) ∙ one (mjd_day t)
    where
      one : (n : ℕ) → suc n ≡ n + 1
      one n = omega arith

  pub next_midnight : (rows : List Row)
      → tai_ms rows (date_start next) + 1000 * offset_on_date rows t ≡ tai_ms rows (day_start t) + 1000 * (86400 + offset_after rows next)
  unfolding tai_ms time_seconds
  next_midnight rows = omega (arith, day-after)
