-- `utc_scales::days::offset_at_0h` meets its contract. Assumes nothing.
use Rattle.std.proofs.Common.{rules}
use mathlib.Core.Path.{ap, ◌∙◌}
use mir.Facts.{to_z-of_z}
use Rattle.floats.specs.Whole.{nought}
use Rattle.calendar.specs.Gregorian.{gregorian_date}
use Rattle.leap_table.specs.offsets.Rule.{offset_by_rule}
use Rattle.leap_table.specs.rows.Announced.{rows_of}
use Rattle.utc_scales.specs.days.Dates.{offset_at0h}
use Rattle.utc_scales.specs.days.DateRule.{rule_on}
use Rattle.utc_scales.proofs.days.Midnights.{month_fits, day-of-month-fits, handed}
use Rattle.utc_scales.proofs.days.offset_at_0h.Goals as goal

pub overflow_cast-t : goal.overflow_cast-t
overflow_cast-t c = month_fits _ _ (c.gregorian_date-t.ensures ∙ ap gregorian_date (to_z-of_z c.ranges.day))

pub overflow_cast-t-2 : goal.overflow_cast-t-2
overflow_cast-t-2 c = day-of-month-fits _ _ (c.gregorian_date-t.ensures ∙ ap gregorian_date (to_z-of_z c.ranges.day))

pub returns : goal.returns
unfolding offset_at0h rule_on offset_by_rule
returns c =
    let rows = rows_of c.args.table.now in
    c.offset_at_0h_by_rows.ensures
    ∙ handed _ _ (c.gregorian_date-t.ensures ∙ ap gregorian_date (to_z-of_z c.ranges.day)) (λ y m d. offset_by_rule rows y m d nought)
    (search rules)
