-- `leap_lists::lines::month_row` meets its contract: a year of four digits and a month of two fit. Assumes nothing.
use Rattle.std.proofs.Common.{arith}
use Rattle.leap_lists.proofs.lines.month_row.Goals as goal

pub overflow_mul-year : goal.overflow_mul-year
overflow_mul-year c = let y = c.requires c.if-places-ne4.false in record { fits = omega (arith, y) }

pub overflow_add-year : goal.overflow_add-year
overflow_add-year c = let y = c.requires c.if-places-ne4.false in record { fits = omega (arith, y) }

pub overflow_cast-year : goal.overflow_cast-year
overflow_cast-year c = let y = c.requires c.if-places-ne4.false in record { fits = omega (arith, y) }

pub row_with-requires : goal.row_with-requires
row_with-requires c = let y = c.requires c.if-places-ne4.false in omega (arith, y)
