-- `capi::offset_calls::ct_get_tai_utc_offset` meets its contract. Assumes nothing.
use mathlib.Core.Path.{◌∙◌}
use lib.IntN.{ℤ}
use Rattle.calendar.proofs.Signs.{read-date}
use Rattle.leap_table.specs.rows.Announced.{rows_of}
use Rattle.leap_table.specs.offsets.Rule.{offset_by_rule}
use Rattle.c_answers.specs.rules.RuleFields.{offset_rule_bytes}
use Rattle.capi.proofs.Arrays.{lent_refused, with_announced}
use Rattle.capi.proofs.offset_calls.ct_get_tai_utc_offset.Goals as goal

pub returns-in-Err : goal.returns-in-Err
returns-in-Err c =
    lent_refused _ _ _ c.read_table.ensures offset_rule_bytes _ c.refused.type_inv _ c.in-Err.is c.refused.ensures

pub returns : goal.returns
returns c =
    with_announced _ _ _ c.read_table.ensures offset_rule_bytes _ c.put_offset.type_inv c.in_default.not-Err
    (c.get_tai_utc_offset_by_rows.ensures
    ∙ read-date (λ (y m d : ℤ). offset_by_rule (rows_of c.read_table.new.table) y m d
    c.args.fraction) _ _ _ c.ranges.year c.ranges.month c.ranges.day)
    c.put_offset.ensures
