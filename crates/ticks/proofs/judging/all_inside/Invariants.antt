-- The numbers passed lie between the two. Assumes nothing.
use Rattle.std.proofs.Common.{◌≡◌}
use mathlib.Core.Bool.{true}
use Rattle.ticks.specs.judging.Refusing.{number_at}
use Rattle.ticks.specs.judging.Numbers.{holds_below}
use Rattle.ticks.proofs.judging.Checks.{held}
use Rattle.ticks.proofs.judging.all_inside.Given as goal

abbrev pub invariant-loop-i : goal.invariant-loop-i
invariant-loop-i l = holds_below l.i (held l.first l.last (number_at l.s)) ≡ true
