-- `leap_lists::lines::last_number` meets its contract: a number of so many digits is small. Assumes nothing.
use Rattle.std.proofs.Common.{arith}
use Rattle.leap_lists.proofs.lines.Runs.{leading-small}
use Rattle.leap_lists.proofs.lines.last_number.Goals as goal

pub returns-clause-small : goal.returns-clause-small
returns-clause-small c = omega (arith, c.digits-value.ensures.says, leading-small c.args.most c.behind_blanks-line.result.now)
