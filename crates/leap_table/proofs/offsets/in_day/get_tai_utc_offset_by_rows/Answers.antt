-- `leap_table::offsets::in_day::get_tai_utc_offset_by_rows` meets its contract: each branch is a case of the offset, a plain date's by its month alone.
-- Assumes nothing.
use Rattle.std.proofs.Common.{sym, ◌∙◌}
use lib.Ieee.{of_bits}
use Rattle.refusals.specs.Outcome.{outcome}
use Rattle.refusals.specs.Refusal.{refusal_number}
use Rattle.leap_table.specs.rows.Announced.{rows_of}
use Rattle.leap_table.specs.offsets.Rule.{offset_by_rule}
use Rattle.leap_table.proofs.offsets.Offsets.{too_low, too_high, in-day, fraction-refused}
use Rattle.leap_table.proofs.offsets.Rules.{told, not_told}
use Rattle.leap_table.proofs.offsets.Plain.{read_plain, plain-offset, read-offset, read-rule}
use Rattle.leap_table.proofs.offsets.in_day.get_tai_utc_offset_by_rows.Goals as goal

pub returns-then-not-fraction : goal.returns-then-not-fraction
unfolding of_bits outcome offset_by_rule refusal_number
returns-then-not-fraction c = not_told _ _ _ (sym (fraction-refused _ _ _ _ _ (too_low _ c.if-not-fraction.true)))

pub returns-then-not-fraction-2 : goal.returns-then-not-fraction-2
unfolding of_bits outcome offset_by_rule refusal_number
returns-then-not-fraction-2 c = not_told _ _ _ (sym (fraction-refused _ _ _ _ _ (too_high _ c.if-not-fraction.false c.if-not-fraction-2.true)))

pub returns-then-plain_day : goal.returns-then-plain_day
unfolding of_bits outcome offset_by_rule refusal_number
returns-then-plain_day c =
    let rows = rows_of c.args.table.now in
    let (x, r) = c.of_plain_day-found.ensures in
    told _ _ _ _
    (plain-offset rows _ _ _
    (read_plain _ _ _ c.ranges.year c.ranges.month c.ranges.day (c.plain_day.ensures c.if-plain_day.true)) _
    (read-offset rows _ _ c.ranges.year c.ranges.month _ x) _
    (in-day _ c.if-not-fraction.false c.if-not-fraction-2.false))
    (r ∙ read-rule rows _ _ c.ranges.year c.ranges.month)

pub by_mjd-requires : goal.by_mjd-requires
unfolding of_bits
by_mjd-requires c = in-day _ c.if-not-fraction.false c.if-not-fraction-2.false
