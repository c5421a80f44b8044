-- Whether an outcome is a refusal, and with which number; what is answered is left out. And what `utc_from_calendar` says of a bill's time. Assumes nothing.
use Rattle.std.specs.Prelude.{◌+◌, ◌*◌, List}
use Rattle.refusals.specs.Outcome.{Outcome, answer, onward}
use Rattle.constants.specs.Constants.{decimal}
use Rattle.julian.specs.declared.JulianDate.{JulianDate}
use Rattle.leap_table.specs.rows.Table.{Row}
use Rattle.utc.specs.FromCalendar.{utc_from_calendar}
use Rattle.standby.specs.declared.UtcTime.{UtcTime}

abbrev pub fault_of : {A : Type 0} → Outcome A → Outcome Unit
fault_of o = onward o (λ _. answer tt)

-- the second is the float nearest to the seconds and milliseconds
abbrev pub as_calendar : List Row → UtcTime → Outcome JulianDate
as_calendar rows t = utc_from_calendar rows t.year t.month t.day t.hour t.minute (decimal (1000 * t.second + t.millis) 3)
