-- UTC to TAI with the rule of the offset that it reads. Written from document 02, item 5: it passes on the rule of the calendar's date at 0h, that of the date
-- of its larger and smaller part. Assumes nothing.
use Rattle.std.specs.Prelude.{List}
use Rattle.refusals.specs.Outcome.{Outcome}
use Rattle.julian.specs.declared.JulianDate.{JulianDate}
use Rattle.leap_table.specs.declared.offsets.Rule.{Rule}
use Rattle.leap_table.specs.rows.Table.{Row}
use Rattle.utc_scales.specs.days.LargerPart.{kept_parts}
use Rattle.utc_scales.specs.days.DateRule.{rule_of_date, pass_on}
use Rattle.utc_scales.specs.UtcTai.{utc_to_tai}

unfoldable pub utc_to_tai_by_rule : List Row → JulianDate → Outcome (JulianDate × Rule)
utc_to_tai_by_rule rows d = pass_on (utc_to_tai rows d) (rule_of_date rows (kept_parts d).larger (kept_parts d).smaller)
