-- `leap_table::offsets::whole_day::leap_at_end_of_day_by_rows` meets its contract: the leap of the offsets of the day. Assumes nothing.
use Rattle.std.proofs.Common.{Float, sym, ap, ◌∙◌, to_z-of_z}
use lib.Ieee.{of_bits}
use Rattle.refusals.specs.Outcome.{Outcome, onward, answer, outcome}
use Rattle.refusals.proofs.Handed.{answered, handed, handed_on}
use Rattle.leap_table.specs.declared.offsets.DayOffsets.{DayOffsets}
use Rattle.leap_table.specs.declared.offsets.Rule.{Rule}
use Rattle.leap_table.specs.rows.Announced.{rows_of}
use Rattle.leap_table.specs.offsets.Leap.{leap_of}
use Rattle.leap_table.specs.offsets.Rule.{day_by_rule, leap_by_rule}
use Rattle.leap_table.proofs.offsets.Rules.{leap-by-day, told}
use Rattle.leap_table.proofs.offsets.Plain.{read_plain, plain-leap, read-offset, read-rule}
use Rattle.leap_table.proofs.offsets.whole_day.leap_at_end_of_day_by_rows.Goals as goal

-- the leap of a day's offsets
abbrev by_leap : Outcome (DayOffsets × Rule) → Outcome (Float × Rule)
by_leap o = onward o (λ p. answer (leap_of p.0, p.1))

pub returns-then-plain_day : goal.returns-then-plain_day
unfolding outcome leap_by_rule of_bits
returns-then-plain_day c =
    let rows = rows_of c.args.table.now in
    let (x, r) = c.of_plain_day-found.ensures in
    told _ _ _ _
    (plain-leap rows _ _ _ (read_plain _ _ _ c.ranges.year c.ranges.month c.ranges.day (c.plain_day.ensures c.if-plain_day.true)) _
    (read-offset rows _ _ c.ranges.year c.ranges.month _ x))
    (r ∙ read-rule rows _ _ c.ranges.year c.ranges.month)

pub returns-in_err-o : goal.returns-in_err-o
unfolding onward
returns-in_err-o c =
    let rows = rows_of c.args.table.now in
    handed_on _ _ c.from_residual.ensures.1
    ∙ ap by_leap (sym (handed c.in_err-o.was))
    ∙ ((λ i. by_leap ((c.by_next_day.ensures
    ∙ (λ j. day_by_rule rows (to_z-of_z c.ranges.year j) (to_z-of_z c.ranges.month j) (to_z-of_z c.ranges.day j))) i))
    ∙ sym (leap-by-day rows c.args.year c.args.month c.args.day))

pub returns : goal.returns
unfolding outcome leap_of onward of_bits
returns c =
    let rows = rows_of c.args.table.now in
    ap by_leap (sym (answered c.in_ok-o.was))
    ∙ ((λ i. by_leap ((c.by_next_day.ensures
    ∙ (λ j. day_by_rule rows (to_z-of_z c.ranges.year j) (to_z-of_z c.ranges.month j) (to_z-of_z c.ranges.day j))) i))
    ∙ sym (leap-by-day rows c.args.year c.args.month c.args.day))
