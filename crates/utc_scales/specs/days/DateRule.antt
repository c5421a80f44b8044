-- The rule of TAI-UTC on the day of a Julian date, passed on with an answer. Written from document 02, item 5: a call passes on the rule of the calendar's date
-- at 0h. Assumes nothing.
use Rattle.std.specs.Prelude.{List, Float}
use Rattle.refusals.specs.Outcome.{Outcome, answer, onward}
use Rattle.julian.specs.Calendar.{julian_to_calendar}
use Rattle.leap_table.specs.declared.offsets.Rule.{Rule}
use Rattle.leap_table.specs.rows.Table.{Row}
unfoldable pub use Rattle.leap_table.specs.offsets.Rule.{rule_on}
use Rattle.utc_scales.specs.days.Dates.{offset_of_date}

-- the rule of the day of a Julian date
unfoldable pub rule_of_date : List Row → Float → Float → Outcome Rule
rule_of_date rows jd1 jd2 = onward (julian_to_calendar jd1 jd2) (λ c. answer (rule_on rows c.date))

-- an answer with the rule that is passed on; its own refusals come first
unfoldable pub pass_on : {A : Type 0} → Outcome A → Outcome Rule → Outcome (A × Rule)
pass_on o q = onward o (λ a. onward q (λ r. answer (a, r)))

-- the offset at 0h of the day of a Julian date, with its rule
unfoldable pub offset_of_date_by_rule : List Row → Float → Float → Outcome (Float × Rule)
offset_of_date_by_rule rows jd1 jd2 = pass_on (offset_of_date rows jd1 jd2) (rule_of_date rows jd1 jd2)
