-- A BILL AS DOCUMENT 02, ITEM 11, ASKS: started quarters, shares to the cent, and the faults of times, for every table that is taken. Assumes nothing.
use mathlib.Core.Path.{◌≡◌}
use mathlib.Core.List.{List}
use Prim.Native.Nat.{ℕ}
use Rattle.refusals.specs.Outcome.{answer}
use Rattle.leap_table.specs.declared.rows.AnnouncedRows.{AnnouncedRows}
use Rattle.leap_table.specs.rows.Table.{Row}
use Rattle.leap_table.specs.rows.Announced.{table_of}
use Rattle.standby.specs.declared.UtcTime.{UtcTime}
use Rattle.standby_laws.specs.Asked.{SharesRight, StartedQuarters, TimeFaults}
use Rattle.standby_laws.proofs.Quarters.{quarters-hold, quarters-least}
use Rattle.standby_laws.proofs.Exact.{offset-is-tai-utc}
use Rattle.standby_laws.proofs.Sharing as Sharing
use Rattle.standby_laws.proofs.Decided.{equal_times, time-decided}
use Rattle.standby_laws.proofs.Faults.{faults-are-calendars}

pub shares-right : (e q total rate a b : ℕ) → SharesRight e q total rate a b
shares-right e q total rate a b = record { cent = Sharing.cent q total a b; shared = Sharing.shared q total a b; equal_times = equal_times e rate a b }

module _ (t : AnnouncedRows) (rows : List Row) (taken : table_of t ≡ answer rows) (u : UtcTime) where
  pub started-quarters : (e : ℕ) → StartedQuarters rows e u
  started-quarters e = record { started = quarters-hold e; no_more = quarters-least e; leap-seconds = offset-is-tai-utc t rows taken u }

  pub time-faults : TimeFaults rows u
  time-faults = record { calendars = faults-are-calendars t rows taken u; decided = time-decided rows u }
