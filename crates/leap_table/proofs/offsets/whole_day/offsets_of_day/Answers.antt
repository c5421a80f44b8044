-- `leap_table::offsets::whole_day::offsets_of_day` meets its contract. Assumes nothing.
use Rattle.std.proofs.Common.{ap, ◌∙◌}
use lib.Ieee.{of_bits}
use Rattle.leap_table.specs.offsets.Leap.{offsets_of_day}
use Rattle.leap_table.specs.rows.Announced.{rows_of}
use Rattle.leap_table.specs.offsets.Rule.{rule_by, rule_of}
use Rattle.leap_table.proofs.rows.ByParts.{few-rows}
use Rattle.leap_table.proofs.offsets.Mjd.{read, read-next-day}
use Rattle.leap_table.proofs.offsets.At.{at_month, same-three}
use Rattle.leap_table.proofs.offsets.whole_day.offsets_of_day.Goals as goal

pub rule_by-requires : goal.rule_by-requires
rule_by-requires c = few-rows c.args.table.now _ c.table_rows_reached-rows.ensures.1

pub returns : goal.returns
unfolding of_bits offsets_of_day rule_of
returns c =
    let t = c.args.table.now in
    let e = c.table_rows_reached-rows.ensures.0 in
    let h = c.table_rows_reached-rows.ensures.1 in
    let o = same-three _ _ _ _ _ _
    (c.offset_by.ensures ∙ at_month _ _ _ _ _ _ e (read c.args.mjd c.requires))
    (c.offset_by-2.ensures ∙ at_month _ _ _ _ _ _ e (read c.args.mjd c.requires))
    (c.offset_by-3.ensures
    ∙ at_month _ _ _ _ _ _ c.next_rows_reached-next_rows.ensures.0 (read-next-day c.args.mjd c.requires)) in
    let r = c.rule_by.ensures t h ∙ ap (rule_by (rows_of t)) e in
    (λ i. (o i, r i))
