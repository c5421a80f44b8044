-- `leap_table::offsets::in_day::offset_at_0h_by_rows` meets its contract: 0h is in every day. Assumes nothing.
use Rattle.std.proofs.Common.{◌≡◌, true, refl, ◌∙◌}
use lib.Ieee.{of_bits, le}
use Rattle.refusals.specs.Outcome.{outcome}
use Rattle.refusals.specs.Refusal.{refusal_number}
use Rattle.floats.specs.Whole.{nought}
use Rattle.leap_table.specs.rows.Announced.{rows_of}
use Rattle.leap_table.specs.offsets.Offset.{in_day}
use Rattle.leap_table.specs.offsets.Rule.{offset_by_rule}
use Rattle.leap_table.proofs.offsets.Rules.{told}
use Rattle.leap_table.proofs.offsets.Plain.{read_plain, plain-offset, read-offset, read-rule}
use Rattle.leap_table.proofs.offsets.in_day.offset_at_0h_by_rows.Goals as goal

at-0h : in_day nought ≡ true
unfolding in_day le
at-0h = refl

pub returns-then-plain_day : goal.returns-then-plain_day
unfolding outcome offset_by_rule refusal_number
returns-then-plain_day c =
    let rows = rows_of c.args.table.now in
    let (x, r) = c.of_plain_day-found.ensures in
    told _ _ _ _
    (plain-offset rows _ _ _
    (read_plain _ _ _ c.ranges.year c.ranges.month c.ranges.day (c.plain_day.ensures c.if-plain_day.true)) _
    (read-offset rows _ _ c.ranges.year c.ranges.month _ x) nought at-0h)
    (r ∙ read-rule rows _ _ c.ranges.year c.ranges.month)

pub by_mjd-requires : goal.by_mjd-requires
unfolding of_bits
by_mjd-requires c = at-0h
