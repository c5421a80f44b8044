-- UTC from the calendar. Written from document 01, "Refusals by number" (order: date, 5, 4; the last minute's limit is 60 + leap), and the Rust's
-- `utc_from_calendar` (scales/utc/mod.rs). Assumes nothing.
use Rattle.std.specs.Prelude.{ℕ, List, ℤ, pos, Float}
use Rattle.std.specs.Float.{binary64}
use Rattle.std.specs.Float.Ieee.{add}
use Rattle.refusals.specs.Outcome.{Outcome, answer, onward}
use Rattle.floats.specs.Whole.{nought}
use Rattle.julian.specs.declared.JulianDate.{JulianDate}
use Rattle.julian.specs.JulianDate.{julian}
use Rattle.julian.specs.DayFraction.{day_fraction}
use Rattle.julian.specs.Calendar.{from_calendar}
use Rattle.leap_table.specs.rows.Table.{Row}
use Rattle.leap_table.specs.offsets.Leap.{leap_at_end_of_day}

-- midnight with a fraction of its day
unfoldable pub midnight_plus : JulianDate → Outcome Float → Outcome JulianDate
midnight_plus midnight fraction = onward fraction (λ f. answer (julian midnight.jd1 (add binary64 midnight.jd2 f)))

-- the date's midnight, and the seconds over the length of its day, which is 86,400 s plus leap
unfoldable pub utc_from_calendar : List Row → ℤ → ℕ → ℕ → ℕ → ℕ → Float → Outcome JulianDate
utc_from_calendar rows y m d hour minute second =
    onward (from_calendar y m d 0 0 nought) (λ midnight.
    onward (leap_at_end_of_day rows y (pos m) (pos d)) (λ leap.
    midnight_plus midnight (day_fraction hour minute second leap)))
