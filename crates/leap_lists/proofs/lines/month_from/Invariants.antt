-- Of the months from `month` on, one begins in `left` days where one begins in `day` from the first.
use Rattle.std.proofs.Common.{◌≡◌, ◌-◌}
use Rattle.leap_lists.specs.lines.Months.{month_after, month_from}
use Rattle.leap_lists.proofs.lines.month_from.Given as goal

abbrev pub invariant-loop-month : goal.invariant-loop-month
invariant-loop-month l = month_after (120000 - l.month) l.month l.left ≡ month_from l.fn.day
