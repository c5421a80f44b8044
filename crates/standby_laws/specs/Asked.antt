-- What document 02, item 11, asks of a bill, sentence by sentence. Assumes nothing.
use Rattle.std.specs.Prelude.{◌≡◌, false, true, List, ℕ, ◌*◌, ◌+◌, ◌<◌, ◌≤◌, pos, Float}
use Rattle.std.specs.Int.Signed.{lt_z}
use Rattle.refusals.specs.Outcome.{answer}
use Rattle.calendar.specs.Refusals.{valid_date}
use Rattle.leap_table.specs.rows.Table.{Row}
use Rattle.leap_table.specs.offsets.Offset.{in_day, tai_utc_offset, whole_f}
use Rattle.standby.specs.declared.UtcTime.{UtcTime}
use Rattle.standby.specs.Times.{instant, offset_on_date}
use Rattle.standby.specs.Bills.{bill, bill_between, quarters, shares}
use Rattle.standby_laws.specs.Decisions.{TimeDecision}
use Rattle.standby_laws.specs.Sharing.{Cent, Shared}
use Rattle.standby_laws.specs.Verdict.{as_calendar, fault_of}

-- e milliseconds are billed by each started 900 s and no more, and the times are TAI's: TAI-UTC on each date from 1972 on is the table's
pub record StartedQuarters (rows : List Row) (e : ℕ) (u : UtcTime) : Type 0 where
  pub started : e ≤ 900000 * quarters e
  pub no_more : (q : ℕ) → e ≤ 900000 * q → quarters e ≤ q
  pub leap-seconds : lt_z u.year (pos 1972) ≡ false → valid_date u.year (pos u.month) (pos u.day) ≡ answer tt → (f : Float) → in_day f ≡ true
      → tai_utc_offset rows u.year (pos u.month) (pos u.day) f ≡ answer (whole_f (offset_on_date rows u))

-- q quarters at a rate, `total` cents, over a and b metres: where the cent went, the shares' sum and distance, and equal times e cost 0
pub record SharesRight (e q total rate a b : ℕ) : Type 0 where
  pub cent : 0 < a + b → Cent total a b (shares q total a b)
  pub shared : 0 < a + b → Shared q total a b (shares q total a b)
  pub equal_times : rate ≤ 1000000 → a ≤ 1000000 → b ≤ 1000000 → 0 < a + b → bill_between e e rate a b ≡ answer (bill 0 0 0)

-- a time's fault is that of `utc_from_calendar`; and exactly when a time has one
pub record TimeFaults (rows : List Row) (u : UtcTime) : Type 0 where
  pub calendars : lt_z u.year (pos 1972) ≡ false → u.millis ≤ 999 → u.second < 256 → fault_of (instant rows u) ≡ fault_of (as_calendar rows u)
  pub decided : TimeDecision rows u
