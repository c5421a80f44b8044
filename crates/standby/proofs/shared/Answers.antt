-- `standby::shared` meets its contract: both parts are at most the total. Assumes nothing.
use Rattle.std.proofs.Common.{◌*◌, arith}
use Rattle.standby.proofs.Shares.{parts-at-most}
use Rattle.standby.proofs.shared.Goals as goal

pub overflow_sub-left-2 : goal.overflow_sub-left-2
overflow_sub-left-2 c =
    let a = c.args in omega (arith, parts-at-most (a.quarters * a.rate) a.first_metres a.second_metres c.requires.some_line)
