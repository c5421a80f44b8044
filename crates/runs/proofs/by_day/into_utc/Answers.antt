-- `runs::by_day::into_utc` meets its contract: the second step where the first answers. Assumes nothing.
use Rattle.std.proofs.Common.{◌∙◌}
use Rattle.leap_table.specs.rows.Announced.{rows_of}
use Rattle.refusals.proofs.Handed.{stops, goes}
use Rattle.runs.proofs.by_day.into_utc.Goals as goal

pub returns-in_err-tai : goal.returns-in_err-tai
returns-in_err-tai c =
    let a = c.args in
    stops _ _ _ _ c.from_residual.ensures.1 (c.in_err-tai.ensures (rows_of a.table.now))

pub returns : goal.returns
returns c =
    let a = c.args in
    c.tai_into_utc_with.ensures ∙ goes _ _ _ (c.in_ok-tai.ensures (rows_of a.table.now))
