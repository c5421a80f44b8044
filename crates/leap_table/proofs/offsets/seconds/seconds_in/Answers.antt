-- `leap_table::offsets::seconds::seconds_in` meets its contract: the seconds are counted in the fixed rows and read in the announced ones. Assumes nothing.
use Rattle.std.proofs.Common.{◌-◌, ◌≤◌, get_or, pos, ◌∙◌, arith, rules}
use Rattle.leap_table.specs.rows.Table.{fixed_rows}
use Rattle.leap_table.proofs.rows.Naturals.{read-natural}
use Rattle.leap_table.proofs.rows.Tables.{at_most_16}
use Rattle.leap_table.proofs.offsets.TableYears.{whole-rows-of}
use Rattle.leap_table.proofs.offsets.WholeSeconds.{in_fixed_row, in_announced_row}
use Rattle.leap_table.proofs.offsets.seconds.seconds_in.Goals as goal
use Rattle.leap_table.proofs.offsets.seconds.seconds_in.Goals.{After-table_rows_reached-rows}

module _ (c : After-table_rows_reached-rows) where
  enough : 15 ≤ c.table_rows_reached-rows.result
  enough = omega (arith, c.table_rows_reached-rows.ensures.0, whole-rows-of c.args.table.now c.args.month c.requires)

pub overflow_sub-result : goal.overflow_sub-result
overflow_sub-result c = omega (arith, enough (goal.at.overflow_sub-result c).After-table_rows_reached-rows)

pub returns-then-rows-le-FIXED_SIZE : goal.returns-then-rows-le-FIXED_SIZE
returns-then-rows-le-FIXED_SIZE c =
    let p = (goal.at.returns-then-rows-le-FIXED_SIZE c).After-table_rows_reached-rows in (
      in_fixed_row c.args.table.now c.args.month c.table_rows_reached-rows.result c.table_rows_reached-rows.ensures.0 (enough p) c.if-rows-le-FIXED_SIZE.true,
      omega (arith, c.if-rows-le-FIXED_SIZE.true),
    )

pub bounds-table-i : goal.bounds-table-i
bounds-table-i c = omega (arith, c.table_rows_reached-rows.ensures.1, at_most_16 c.args.table.now, c.if-rows-le-FIXED_SIZE.false)

pub offset_bounds-table-i : goal.offset_bounds-table-i
offset_bounds-table-i c = omega (arith, c.table_rows_reached-rows.ensures.1, at_most_16 c.args.table.now, c.if-rows-le-FIXED_SIZE.false)

pub returns : goal.returns
returns c =
    let p = (goal.at.returns c).After-table_rows_reached-rows in (
      c.natural.ensures.0
          ∙ read-natural (get_or c.args.table.now.seconds (c.table_rows_reached-rows.result - fixed_rows - 1) (pos 0)) (search rules)
          ∙ in_announced_row c.args.table.now c.args.month c.table_rows_reached-rows.result c.table_rows_reached-rows.ensures.0 (enough p)
          c.if-rows-le-FIXED_SIZE.false c.table_rows_reached-rows.ensures.1,
      c.natural.ensures.1,
    )
