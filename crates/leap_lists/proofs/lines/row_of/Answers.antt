-- `leap_lists::lines::row_of` meets its contract: a number of four digits is below 10,000. Assumes nothing.
use Rattle.std.proofs.Common.{sym, ◌∙◌, arith}
use Rattle.numerals.proofs.digits.Decimal.{number-below}
use Rattle.leap_lists.specs.lines.Scan.{first_digits}
use Rattle.leap_lists.proofs.lines.Runs.{all-leading, of_four}
use Rattle.leap_lists.proofs.lines.row_of.Goals as goal

pub month_row-requires : goal.month_row-requires
month_row-requires c e =
    let d = first_digits 12 c.args.s.now in
    omega (arith, c.digits-value.ensures.says, of_four _ _ (number-below d (all-leading 12 c.args.s.now)) (sym c.digits-value.ensures.many ∙ e))
