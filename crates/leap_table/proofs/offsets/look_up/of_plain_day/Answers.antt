-- `leap_table::offsets::look_up::of_plain_day` meets its contract: the row of the month is one of whole seconds. Assumes nothing.
use Rattle.std.proofs.Common.{◌≡◌, ℕ, ◌+◌, ◌≤◌, nat_abs, ap, ◌∙◌, arith}
use Rattle.calendar.proofs.Signs.{to-unsigned, read_back}
use Rattle.leap_table.specs.rows.Table.{starts, reached, month_number, fixed_rows}
use Rattle.leap_table.specs.rows.Announced.{announced_size, rows_of}
use Rattle.leap_table.specs.offsets.Offset.{offset_at}
use Rattle.leap_table.specs.offsets.Rule.{rule_by, rule_of, rule_at}
use Rattle.leap_table.proofs.offsets.Month.{read-month}
use Rattle.leap_table.proofs.rows.ByParts.{few-rows}
use Rattle.leap_table.proofs.offsets.ByParts.{whole-reached, seconds-reached}
use Rattle.leap_table.proofs.offsets.Plain.{plain-accepted}
use Rattle.leap_table.proofs.offsets.look_up.of_plain_day.Goals as goal
use Rattle.leap_table.proofs.offsets.look_up.of_plain_day.Goals.{After-month_number, After-table_rows_reached-rows}

month_is : (c : After-month_number) → c.month_number.result ≡ month_number c.args.year (nat_abs c.args.month)
month_is c = c.month_number.ensures ∙ read-month _ _ c.ranges.year c.ranges.month

in_range : (c : After-table_rows_reached-rows)
    → (15 ≤ c.table_rows_reached-rows.result) × (c.table_rows_reached-rows.result ≤ fixed_rows + announced_size c.args.table.now)
in_range c =
    let s = c.args in
    let e : c.month_number.result ≡ month_number s.year (nat_abs s.month) = c.month_number.ensures ∙ read-month _ _ c.ranges.year c.ranges.month in (
      whole-reached s.table.now c.month_number.result _ (omega (arith, e, c.requires.from_1972)) c.table_rows_reached-rows.ensures.0,
      c.table_rows_reached-rows.ensures.1,
    )

pub overflow_cast-month : goal.overflow_cast-month
overflow_cast-month c = to-unsigned c.args.month c.ranges.month (plain-accepted _ _ _ c.requires).m-sign

pub month_number-requires : goal.month_number-requires
month_number-requires c =
    let m = read_back c.args.month c.ranges.month in
    let a = plain-accepted _ _ _ c.requires in
    (omega (arith, m, a.m_low), omega (arith, m, a.m_high))

pub seconds_of_row-requires : goal.seconds_of_row-requires
seconds_of_row-requires c = in_range (goal.at.seconds_of_row-requires c).After-table_rows_reached-rows

pub whole_rule-requires : goal.whole_rule-requires
whole_rule-requires c =
    let p = in_range (goal.at.whole_rule-requires c).After-table_rows_reached-rows in
    (p.0, few-rows c.args.table.now _ p.1)

pub returns : goal.returns
unfolding rule_of rule_at
returns c =
    let s = c.args in
    let t = s.table.now in
    let rows = rows_of t in
    let k = c.table_rows_reached-rows.ensures.0 in
    let h = c.table_rows_reached-rows.ensures.1 in
    let e = month_is (goal.at.returns c).After-month_number in
    let x = seconds-reached t c.month_number.result _ (omega (arith, e, c.requires.from_1972)) k c.seconds_of_row.result c.seconds_of_row.ensures in (
      λ mjd f. x mjd f ∙ ap (λ (j : ℕ). offset_at rows j mjd f) e,
      c.whole_rule.ensures t h ∙ ap (rule_by rows) k ∙ ap (λ (j : ℕ). rule_by rows (reached (starts rows) j)) e,
    )
