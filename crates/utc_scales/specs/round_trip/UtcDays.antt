-- Days of UTC from 1972 on: which day a date lies on, TAI-UTC at its 0h by a table's rows, and the leap second at its end, inserted or left out. Written from
-- document 01, "Day and fraction" and "TAI-UTC", and document 02, item 8: day n begins half a day before the Julian date n, and the rows from 1972 on,
-- announced ones among them, are whole seconds, each one second more or less than the row before. Days are counted in units of 2 ^ -1074 day, of which L are a
-- day, so that every float is a whole number of them. Assumes nothing.
use Rattle.std.specs.Prelude.{◌≡◌, List, ℕ, suc, ◌+◌, ◌-◌, ◌*◌, ◌≤◌, ◌<◌, pos}
use Rattle.rounding.specs.Value.{L}
unfoldable pub use Rattle.rounding.specs.Value.{H}
use Rattle.calendar.specs.Calendar.{date_of}
use Rattle.julian.specs.declared.JulianDate.{JulianDate}
use Rattle.julian.specs.Worth.{Worth}
use Rattle.leap_table.specs.rows.Table.{Row, month_number, most_seconds}
use Rattle.leap_table.specs.offsets.Offset.{seconds_in}

-- (p - m) / L lies on day n: f / L of that day have passed
pub record OnDay (p m n : ℕ) : Type 0 where
  pub f : ℕ
  pub below : f < L
  pub is : n * L + f + m ≡ p + H

-- the exact value of d, the sum of its parts, lies on day n
pub record ExactDay (d : JulianDate) (n : ℕ) : Type 0 where
  pub p : ℕ
  pub m : ℕ
  pub worth : Worth d p m L
  pub on : OnDay p m n

-- the number of the month of a day number
unfoldable pub month_on : ℕ → ℕ
month_on n = month_number (date_of (pos n)).year (date_of (pos n)).month

-- TAI-UTC at 0h of day n, in whole seconds: those of the row
unfoldable pub seconds_on : List Row → ℕ → ℕ
seconds_on rows n = seconds_in rows (month_on n)

-- the leap seconds that are inserted at the end of day n
unfoldable pub leap_after : List Row → ℕ → ℕ
leap_after rows n = seconds_on rows (suc n) - seconds_on rows n

-- the seconds that are left out at the end of day n
unfoldable pub short_after : List Row → ℕ → ℕ
short_after rows n = seconds_on rows n - seconds_on rows (suc n)

-- how a day ends: plainly, with a second inserted, or with one left out
pub data Ending : ℕ → ℕ → Type 0 where
  ends_plain : Ending 0 0
  ends_longer : Ending 1 0
  ends_shorter : Ending 0 1

-- a day from 1972 on begins with 10 to 53 whole seconds, and so does the next, which has as many, or one more or less
pub record WholeSeconds (rows : List Row) (n : ℕ) : Type 0 where
  pub least : 10 ≤ seconds_on rows n
  pub most : seconds_on rows n ≤ most_seconds
  pub least_next : 10 ≤ seconds_on rows (suc n)
  pub most_next : seconds_on rows (suc n) ≤ most_seconds
  pub ending : Ending (leap_after rows n) (short_after rows n)
  pub next : seconds_on rows n + leap_after rows n ≡ seconds_on rows (suc n) + short_after rows n
