-- What the functions below `standby_bill` ask of their arguments, and ensure. Assumes nothing.
use Rattle.std.specs.Prelude.{ℕ, ◌+◌, ◌≤◌, ◌<◌, ◌≡◌, false, pos, Result, Ok}
use Rattle.std.specs.Int.Signed.{lt_z}
use Rattle.refusals.specs.declared.Refusal.{Refusal}
use Rattle.refusals.specs.Outcome.{Outcome, answer, seen}
use Rattle.calendar.specs.declared.CalendarDate.{CalendarDate}
use Rattle.calendar.specs.Refusals.{next_of}
use Rattle.leap_table.specs.declared.rows.AnnouncedRows.{AnnouncedRows}
use Rattle.leap_table.specs.rows.Announced.{rows_of, table_of}
use Rattle.standby.specs.declared.UtcTime.{UtcTime}
use Rattle.standby.specs.declared.Instant.{Instant}
use Rattle.standby.specs.Times.{mjd_day}
use Rattle.standby.specs.Instants.{instant_ms}

-- a table that is taken, and a date from 1972 on with its day and its next date
pub record Dated (table : AnnouncedRows) (t : UtcTime) (day : ℕ) (next : CalendarDate) : Type 0 where
  pub taken : table_of table ≡ answer (rows_of table)
  pub from_1972 : lt_z t.year (pos 1972) ≡ false
  pub has_next : next_of t.year (pos t.month) (pos t.day) ≡ answer next
  pub day_is : day ≡ mjd_day t
  pub few_days : day < 1000000000000

-- an instant whose sums fit
pub record SmallInstant (i : Instant) : Type 0 where
  pub few_seconds : i.seconds < 1000000000000000000
  pub few_millis : i.millis ≤ 999

-- the result says the outcome o in milliseconds, and an instant is small
pub record InstantIs (o : Outcome ℕ) (r : Result Instant Refusal) : Type 0 where
  pub says : seen instant_ms r ≡ o
  pub small : (i : Instant) → r ≡ Ok i → SmallInstant i

pub record StartFirst (start end : Instant) : Type 0 where
  pub small_start : SmallInstant start
  pub small_end : SmallInstant end
  pub order : instant_ms start ≤ instant_ms end

pub record InLimits (q rate a b : ℕ) : Type 0 where
  pub few_quarters : q ≤ 1000000
  pub low_rate : rate ≤ 1000000
  pub short_first : a ≤ 1000000
  pub short_second : b ≤ 1000000
  pub some_line : 0 < a + b
