-- What a UTC text deserves under a table of rows, case by case: what its fields deserve, then 4 for a time that its day does not have, then the fields with
-- their date. Written from document 02, item 1 ("a UTC text must name what `utc_from_calendar` accepts and gives its date too"), and the Rust's `FromStr`
-- (scales/utc/mod.rs). Assumes nothing.
use Rattle.std.specs.Prelude.{ℕ, ◌≡◌, List, true, false, pos, Float}
use Rattle.refusals.specs.Outcome.{Outcome, answer, refusal}
use Rattle.julian.specs.declared.JulianDate.{JulianDate}
use Rattle.julian.specs.DayFraction.{time_in_day}
use Rattle.leap_table.specs.rows.Table.{Row}
use Rattle.leap_table.specs.offsets.Leap.{leap_at_end_of_day}
use Rattle.utc.specs.FromCalendar.{utc_from_calendar}
use Rattle.parsing.specs.declared.ParsedDateTime.{ParsedDateTime}
use Rattle.parsing.specs.declared.ParsedUtc.{ParsedUtc}
use Rattle.parsing_laws.specs.Verdict.{Verdict}
use Rattle.parsing_laws.specs.Shown.{with_date}

-- x is the leap of the date of p
abbrev pub LeapOfDate : List Row → ParsedDateTime → Float → Type 0
LeapOfDate rows p x = leap_at_end_of_day rows p.year (pos p.month) (pos p.day) ≡ answer x

pub data UtcVerdict (rows : List Row) (t : List ℕ) : Outcome ParsedUtc → Type 0 where
  no_fields : (k : ℕ) → Verdict true t (refusal k) → UtcVerdict rows t (refusal k)
  not_in_day : (p : ParsedDateTime) (x : Float) → Verdict true t (answer p) → LeapOfDate rows p x → time_in_day p.hour p.minute p.second x ≡ false
      → UtcVerdict rows t (refusal 4)
  dated_so : (p : ParsedDateTime) (x : Float) (jd : JulianDate) → Verdict true t (answer p) → LeapOfDate rows p x
      → time_in_day p.hour p.minute p.second x ≡ true
      → utc_from_calendar rows p.year p.month p.day p.hour p.minute p.second ≡ answer jd → UtcVerdict rows t (answer (with_date p jd))
