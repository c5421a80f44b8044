-- WHAT IS BILLED IS ELAPSED TIME: under every table that is taken, next midnight is 1,000 times 86,400 and the day's leap milliseconds after midnight, and a
-- time of the day is after midnight by what the clock shows; so the exact TAI from one time to another is the sum of the days between them. Assumes nothing.
use mathlib.Core.Path.{◌≡◌, refl, ap, sym, ◌∙◌}
use mathlib.Core.List.{List}
use Prim.Native.Nat.{ℕ, ◌+◌, ◌*◌}
use native.Mathlib.Omega.{arith}
use lib.IntN.{ℤ, pos}
use lib.Ieee.{Float}
use Rattle.refusals.specs.Outcome.{answer}
use Rattle.calendar.specs.declared.CalendarDate.{CalendarDate}
use Rattle.calendar.specs.Refusals.{next_of}
use Rattle.calendar.proofs.Accepted.{date-accepted}
use Rattle.calendar.proofs.Mjd.{same_answer}
use Rattle.calendar.proofs.NextDates.{next-is, next-in-calendar}
use Rattle.leap_table.specs.declared.rows.AnnouncedRows.{AnnouncedRows}
use Rattle.leap_table.specs.rows.Table.{Row, month_number}
use Rattle.leap_table.specs.rows.Announced.{table_of}
use Rattle.leap_table.specs.offsets.Offset.{seconds_in}
use Rattle.leap_table.proofs.offsets.Days.{leap-given}
use Rattle.leap_table.proofs.offsets.WholeSeconds.{late}
use Rattle.leap_days.specs.Tables.{seconds_of_row, StepLeap, no_row, row_up, row_down}
use Rattle.leap_days.proofs.TableLeaps.{leap-is-step}
use Rattle.standby.specs.declared.UtcTime.{UtcTime}
use Rattle.standby.specs.Times.{offset_on_date, offset_after, in_its_day, tai_ms, instant}
use Rattle.standby.specs.Elapsed.{at0h, day_start, date_start}
use Rattle.standby.proofs.Times.{on-date, time-fits}
use Rattle.standby.proofs.Elapsed.{by-clock, next-from, next_midnight}
use Rattle.standby_laws.specs.Elapsed.{ElapsedBy, no_leap, leap-second, second_less, DayElapsed, ByClock}
use Rattle.standby_laws.proofs.Faults.{whole_here}
use Rattle.standby_laws.proofs.Order.{Known, known}

module _ (table : AnnouncedRows) (rows : List Row) (taken : table_of table ≡ answer rows) where
  exact : (t : UtcTime) (s : ℕ) → instant rows t ≡ answer s → s ≡ tai_ms rows t
  exact t s e = same_answer (sym e ∙ (known table rows taken t s e).is)

  -- ---- within a day
  midnight-taken : (t : UtcTime) → Known table rows taken t → instant rows (day_start t) ≡ answer (tai_ms rows (day_start t))
  unfolding in_its_day
  midnight-taken t k = sym (time-fits rows (day_start t) k.after refl ∙ on-date rows (day_start t) k.from k.after k.has_next)

  -- THE LAW within a day
  pub elapsed_by_clock : (t : UtcTime) (e : ℕ) → instant rows t ≡ answer e → ByClock rows t e
  elapsed_by_clock t e p = record {
    begin = tai_ms rows (day_start t);
    is = midnight-taken t (known table rows taken t e p);
    since = exact t e p ∙ by-clock rows t;
  }

  -- ---- from midnight to midnight
  module _ (y : ℤ) (m d : ℕ) (next : CalendarDate) (has_next : next_of y (pos m) (pos d) ≡ answer next) (s e : ℕ)
      (at_first : instant rows (at0h y m d) ≡ answer s) (at_last : instant rows (date_start next) ≡ answer e) where
    k : Known table rows taken (at0h y m d)
    k = known table rows taken (at0h y m d) s at_first

    apart : e + 1000 * offset_on_date rows (at0h y m d) ≡ s + 1000 * (86400 + offset_after rows next)
    apart = let h = next_midnight (at0h y m d) k.from next has_next rows in
        omega (arith, h, exact (at0h y m d) s at_first, exact (date_start next) e at_last)

    here : offset_on_date rows (at0h y m d) ≡ seconds_in rows (month_number y m)
    here =
        let a = date-accepted y (pos m) (pos d) (next-is y (pos m) (pos d) next has_next).0 in
        whole_here table rows taken y m k.from a.m_low a.m_high

    there : offset_after rows next ≡ seconds_in rows (month_number next.year next.month)
    there =
        let c = next-in-calendar y (pos m) (pos d) next has_next in
        whole_here table rows taken next.year next.month (next-from (at0h y m d) k.from next has_next) c.m_low c.m_high

    by-step : {x : Float} → StepLeap rows (month_number y m) (month_number next.year next.month) x → ElapsedBy x s e
    by-step (no_row r p) = no_leap p (omega (arith, apart, here, there, ap seconds_of_row r))
    by-step (row_up r u p) = leap-second p (omega (arith, apart, here, there, u))
    by-step (row_down r u p) = second_less p (omega (arith, apart, here, there, u))

    -- THE LAW from midnight to midnight
    pub day-elapsed : DayElapsed rows y m d s e
    day-elapsed =
        let a = date-accepted y (pos m) (pos d) (next-is y (pos m) (pos d) next has_next).0 in
        let l = leap-given rows y (pos m) (pos d) next has_next in
        record {
          leap = _;
          is = l;
          length = by-step (leap-is-step table rows taken y (pos m) (pos d) next _ (late y m k.from a.m_low) has_next l);
        }
