-- `leap_table::offsets::look_up::whole_rule` meets its contract: no row of places 14 on drifts. Assumes nothing.
use Rattle.std.proofs.Common.{◌-◌, not, ap, ◌∙◌, arith, le-ltb}
use Rattle.leap_table.specs.rows.Announced.{announced_size, rows_of}
use Rattle.leap_table.proofs.rows.Tables.{table-drifts}
use Rattle.leap_table.proofs.offsets.Rules.{rule-whole}
use Rattle.leap_table.proofs.offsets.look_up.whole_rule.Goals as goal

pub returns : goal.returns
returns c t h =
    let k = c.args.rows in
    let p = c.requires.0 in
    rule-whole (rows_of t) k (omega arith)
    (table-drifts t (announced_size t) (k - 1) (omega (arith, p, h)) ∙ ap not (le-ltb (k - 1) 14 (omega arith)))
