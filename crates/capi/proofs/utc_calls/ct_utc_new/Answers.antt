-- `capi::utc_calls::ct_utc_new` meets its contract. Assumes nothing.
use mathlib.Core.Path.{ap, ◌∙◌}
use lib.IntN.{ℤ}
use mir.Facts.{to_z-of_z}
use Rattle.leap_table.specs.rows.Announced.{rows_of}
use Rattle.utc.specs.UnixTime.{utc_new}
use Rattle.c_answers.specs.Fields.{julian_bytes}
use Rattle.std.proofs.Common.{rules}
use Rattle.capi.proofs.scale_calls.Mapped.{mapped}
use Rattle.capi.proofs.Arrays.{lent_refused, with_announced}
use Rattle.capi.proofs.utc_calls.ct_utc_new.Goals as goal

pub returns-in-Err : goal.returns-in-Err
returns-in-Err c =
    lent_refused _ _ _ c.read_table.ensures julian_bytes _ c.refused.type_inv _ c.in-Err.is c.refused.ensures

pub returns : goal.returns
returns c =
    with_announced _ _ _ c.read_table.ensures julian_bytes _ c.put_date.type_inv c.in_default.not-Err
    (mapped (λ s. s.0) _ _ c.map.ensures.cases (λ x y p. search rules)
    ∙ c.new_by_rows.ensures
    ∙ ap (λ (z : ℤ). utc_new (rows_of c.read_table.new.table) z c.args.nanos) (to_z-of_z c.ranges.seconds))
    c.put_date.ensures
