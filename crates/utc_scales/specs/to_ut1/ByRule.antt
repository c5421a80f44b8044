-- UTC to UT1 with the rule of the offset that it reads. Written from document 02, item 5: it passes on the rule of the calendar's date at 0h, that of (jd1,
-- jd2), where its offset is read. Assumes nothing.
use Rattle.std.specs.Prelude.{cond, List, Float}
use Rattle.refusals.specs.Outcome.{Outcome}
use Rattle.julian.specs.declared.JulianDate.{JulianDate}
use Rattle.leap_table.specs.declared.offsets.Rule.{Rule}
use Rattle.leap_table.specs.rows.Table.{Row}
use Rattle.utc_scales.specs.declared.days.Parts.{Parts}
use Rattle.utc_scales.specs.days.DateRule.{rule_of_date, pass_on, offset_of_date_by_rule}
use Rattle.utc_scales.specs.to_ut1.UtcUt1.{utc_to_ut1}

unfoldable pub utc_to_ut1_by_rule : List Row → JulianDate → Float → Outcome (JulianDate × Rule)
utc_to_ut1_by_rule rows d dut1 = pass_on (utc_to_ut1 rows d dut1) (rule_of_date rows d.jd1 d.jd2)

-- TAI-UTC at 0h of the day of a Julian date by its parts, jd1 before jd2, and its rule
unfoldable pub offset_of_parts : List Row → Parts → Outcome (Float × Rule)
offset_of_parts rows p = cond p.first (offset_of_date_by_rule rows p.larger p.smaller) (offset_of_date_by_rule rows p.smaller p.larger)
