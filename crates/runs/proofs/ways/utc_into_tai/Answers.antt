-- `runs::ways::utc_into_tai` meets its contract: TAI without the rule. Assumes nothing.
use Rattle.std.proofs.Common.{ap, ◌∙◌}
use Rattle.refusals.specs.Outcome.{outcome, seen, onward}
use Rattle.refusals.proofs.Handed.{handed_on}
use Rattle.leap_table.specs.rows.Announced.{rows_of}
use Rattle.leap_table.specs.offsets.Rule.{forget}
use Rattle.utc_scales.proofs.Rules.{utc-to-tai-forgets}
use Rattle.runs.proofs.ways.utc_into_tai.Goals as goal

pub returns-in_err-tai : goal.returns-in_err-tai
unfolding seen forget onward
returns-in_err-tai c =
    let a = c.args in
    handed_on _ _ c.from_residual.ensures.1 ∙ ap forget c.in_err-tai.ensures ∙ utc-to-tai-forgets (rows_of a.table.now) a.jd

pub returns : goal.returns
unfolding outcome seen forget onward
returns c =
    let a = c.args in
    ap forget c.in_ok-tai.ensures ∙ utc-to-tai-forgets (rows_of a.table.now) a.jd
