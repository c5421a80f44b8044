-- `utc_scales::table::day_of` meets its contract. Assumes nothing.
use Rattle.std.proofs.Common.{rules}
use mathlib.Core.Path.{ap, ◌∙◌}
use mir.Facts.{to_z-of_z}
use Rattle.calendar.specs.Gregorian.{gregorian_date}
use Rattle.leap_table.specs.offsets.Rule.{day_by_rule}
use Rattle.leap_table.specs.rows.Announced.{rows_of}
use Rattle.utc_scales.specs.days.Dates.{offsets_of}
use Rattle.utc_scales.specs.days.DateRule.{rule_on}
use Rattle.utc_scales.specs.Known.{read_on}
use Rattle.utc_scales.proofs.days.Midnights.{month_fits, day-of-month-fits, handed}
use Rattle.utc_scales.proofs.table.day_of.Goals as goal

pub overflow_cast-t : goal.overflow_cast-t
overflow_cast-t c = month_fits _ _ (c.gregorian_date-t.ensures ∙ ap gregorian_date (to_z-of_z c.ranges.day))

pub overflow_cast-t-2 : goal.overflow_cast-t-2
overflow_cast-t-2 c = day-of-month-fits _ _ (c.gregorian_date-t.ensures ∙ ap gregorian_date (to_z-of_z c.ranges.day))

pub returns : goal.returns
unfolding read_on offsets_of rule_on day_by_rule
returns c =
    let rows = rows_of c.args.table.now in
    c.day_offsets_by_rows.ensures
    ∙ handed _ _ (c.gregorian_date-t.ensures ∙ ap gregorian_date (to_z-of_z c.ranges.day)) (day_by_rule rows)
    (search rules)
