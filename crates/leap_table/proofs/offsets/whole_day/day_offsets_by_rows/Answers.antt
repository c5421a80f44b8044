-- `leap_table::offsets::whole_day::day_offsets_by_rows` meets its contract: a plain date has one offset. Assumes nothing.
use Rattle.std.proofs.Common.{◌∙◌}
use Rattle.refusals.specs.Outcome.{outcome}
use Rattle.refusals.specs.Refusal.{refusal_number}
use Rattle.leap_table.specs.rows.Announced.{rows_of}
use Rattle.leap_table.specs.offsets.Rule.{day_by_rule}
use Rattle.leap_table.proofs.offsets.Rules.{told}
use Rattle.leap_table.proofs.offsets.Plain.{read_plain, plain-offsets, read-offset, read-rule}
use Rattle.leap_table.proofs.offsets.whole_day.day_offsets_by_rows.Goals as goal

pub returns-then-plain_day : goal.returns-then-plain_day
unfolding outcome day_by_rule refusal_number
returns-then-plain_day c =
    let rows = rows_of c.args.table.now in
    let (x, r) = c.of_plain_day-found.ensures in
    told _ _ _ _
    (plain-offsets rows _ _ _
    (read_plain _ _ _ c.ranges.year c.ranges.month c.ranges.day (c.plain_day.ensures c.if-plain_day.true)) _
    (read-offset rows _ _ c.ranges.year c.ranges.month _ x))
    (r ∙ read-rule rows _ _ c.ranges.year c.ranges.month)
