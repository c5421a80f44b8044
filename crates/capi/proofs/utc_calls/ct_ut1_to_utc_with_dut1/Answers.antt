-- `capi::utc_calls::ct_ut1_to_utc_with_dut1` meets its contract. Assumes nothing.
use mathlib.Core.Path.{◌∙◌}
use Rattle.c_answers.specs.Fields.{julian_bytes}
use Rattle.std.proofs.Common.{rules}
use Rattle.capi.proofs.scale_calls.Mapped.{mapped}
use Rattle.capi.proofs.Arrays.{lent_refused, with_announced}
use Rattle.capi.proofs.utc_calls.ct_ut1_to_utc_with_dut1.Goals as goal

pub returns-in-Err : goal.returns-in-Err
returns-in-Err c =
    lent_refused _ _ _ c.read_table.ensures julian_bytes _ c.refused.type_inv _ c.in-Err.is c.refused.ensures

pub returns : goal.returns
returns c =
    with_announced _ _ _ c.read_table.ensures julian_bytes _ c.put_date.type_inv c.in_default.not-Err
    (mapped (λ s. s.0) _ _ c.map.ensures.cases (λ x y p. search rules) ∙ c.ut1_to_utc_with_dut1_by_rows.ensures)
    c.put_date.ensures
