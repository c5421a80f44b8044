-- `leap_table::offsets::walk_rows::row_start` meets its contract: a row stands in the fixed table or among the announced ones, or there is none. Assumes
-- nothing.
use Rattle.std.proofs.Common.{◌-◌, get_or, pos, ◌∙◌, arith, rules}
use Rattle.leap_table.specs.rows.Table.{fixed, fixed_rows}
use Rattle.leap_table.proofs.rows.Naturals.{read-natural}
use Rattle.leap_table.proofs.offsets.Forward.{start-fixed, start-announced, start-past}
use Rattle.leap_table.proofs.offsets.walk_rows.row_start.Goals as goal

pub returns-then-i-lt-FIXED_SIZE : goal.returns-then-i-lt-FIXED_SIZE
unfolding fixed
returns-then-i-lt-FIXED_SIZE c =
    let s = c.args in
    c.month_at.ensures ∙ start-fixed s.table s.i c.if-i-lt-FIXED_SIZE.true

pub returns-then-place-announced_size : goal.returns-then-place-announced_size
returns-then-place-announced_size c =
    let s = c.args in
    c.natural.ensures.0
    ∙ read-natural (get_or s.table.months (s.i - fixed_rows) (pos 0)) (search rules)
    ∙ start-announced s.table s.i c.if-i-lt-FIXED_SIZE.false (omega (arith, c.if-place-announced_size.true, c.announced_size.ensures.0))

pub returns : goal.returns
returns c =
    let s = c.args in
    start-past s.table s.i c.if-i-lt-FIXED_SIZE.false (omega (arith, c.if-place-announced_size.false, c.announced_size.ensures.0))
