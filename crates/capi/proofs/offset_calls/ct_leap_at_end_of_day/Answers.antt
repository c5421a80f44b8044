-- `capi::offset_calls::ct_leap_at_end_of_day` meets its contract. Assumes nothing.
use mathlib.Core.Path.{ap, ◌∙◌}
use Rattle.calendar.proofs.Signs.{read-date}
use Rattle.leap_table.specs.rows.Announced.{rows_of}
use Rattle.leap_table.specs.offsets.Leap.{leap_at_end_of_day}
use Rattle.leap_table.specs.offsets.Rule.{forget}
use Rattle.leap_table.proofs.offsets.Rules.{leap-forgets}
use Rattle.c_answers.specs.Fields.{float_bytes}
use Rattle.capi.proofs.Arrays.{lent_refused, with_announced}
use Rattle.capi.proofs.offset_calls.ct_leap_at_end_of_day.Goals as goal

pub returns-in-Err : goal.returns-in-Err
returns-in-Err c =
    lent_refused _ _ _ c.read_table.ensures float_bytes _ c.refused.type_inv _ c.in-Err.is c.refused.ensures

pub returns : goal.returns
returns c =
    with_announced _ _ _ c.read_table.ensures float_bytes _ c.put_leap.type_inv c.in_default.not-Err
    (ap forget c.leap_at_end_of_day_by_rows.ensures
    ∙ leap-forgets (rows_of c.read_table.new.table) _ _ _
    ∙ read-date (leap_at_end_of_day (rows_of c.read_table.new.table)) _ _ _ c.ranges.year
    c.ranges.month c.ranges.day)
    c.put_leap.ensures
