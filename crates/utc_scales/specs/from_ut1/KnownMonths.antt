-- A month whose offset has been looked up is known rightly: from 1972 on it is that at 0h of each of its days. What the code of UT1 to UTC carries from day to
-- day, so that it looks a month up once. This project's own: the Rust looks each day up anew. No contract of a public function cites it. Assumes nothing.
use Rattle.std.specs.Prelude.{◌≡◌, true, List, ℤ, pos, Result, Ok, Err}
use Rattle.std.specs.Int.Signed.{le_z}
use Rattle.refusals.specs.declared.Refusal.{Refusal}
use Rattle.refusals.specs.Outcome.{answer}
use Rattle.calendar.specs.Gregorian.{gregorian_date}
use Rattle.leap_table.specs.rows.Table.{Row}
use Rattle.utc_scales.specs.days.Dates.{offset_at0h}
use Rattle.utc_scales.specs.declared.from_ut1.months.KnownMonth.{KnownMonth}
use Rattle.utc_scales.specs.declared.from_ut1.DayScan.{DayScan}
use Rattle.utc_scales.specs.declared.from_ut1.DayScan.TheVariants as Scan

unfoldable pub RightMonth : List Row → KnownMonth → Type 0
RightMonth rows k =
    (n : ℤ) → (gregorian_date n).year ≡ k.year → (gregorian_date n).month ≡ k.month → le_z (pos 1972) k.year ≡ true
    → offset_at0h rows (gregorian_date n) ≡ answer k.seconds

unfoldable pub RightMonths : List Row → Result KnownMonth Refusal → Type 0
RightMonths rows (Ok k) = RightMonth rows k
RightMonths rows (Err r) = Unit

unfoldable pub RightScan : List Row → Result DayScan Refusal → Type 0
RightScan rows (Ok (Scan.NoStep k)) = RightMonth rows k
RightScan rows (Ok (Scan.Step x)) = Unit
RightScan rows (Err r) = Unit
