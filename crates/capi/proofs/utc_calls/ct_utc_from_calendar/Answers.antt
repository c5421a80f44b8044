-- `capi::utc_calls::ct_utc_from_calendar` meets its contract. Assumes nothing.
use mathlib.Core.Path.{ap, ◌∙◌}
use lib.IntN.{ℤ}
use mir.Facts.{to_z-of_z}
use Rattle.leap_table.specs.rows.Announced.{rows_of}
use Rattle.utc.specs.FromCalendar.{utc_from_calendar}
use Rattle.c_answers.specs.Fields.{julian_bytes}
use Rattle.std.proofs.Common.{rules}
use Rattle.capi.proofs.scale_calls.Mapped.{mapped}
use Rattle.capi.proofs.Arrays.{lent_refused, with_announced}
use Rattle.capi.proofs.utc_calls.ct_utc_from_calendar.Goals as goal

pub returns-in-Err : goal.returns-in-Err
returns-in-Err c =
    lent_refused _ _ _ c.read_table.ensures julian_bytes _ c.refused.type_inv _ c.in-Err.is c.refused.ensures

pub returns : goal.returns
returns c =
    with_announced _ _ _ c.read_table.ensures julian_bytes _ c.put_date.type_inv c.in_default.not-Err
    (mapped (λ s. s.0) _ _ c.map.ensures.cases (λ x y p. search rules) ∙ c.utc_from_calendar_by_rows.ensures
    ∙ ap (λ (y : ℤ). utc_from_calendar (rows_of c.read_table.new.table) y c.args.month
    c.args.day c.args.hour c.args.minute c.args.second) (to_z-of_z c.ranges.year))
    c.put_date.ensures
