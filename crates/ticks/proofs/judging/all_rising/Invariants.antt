-- Each number passed is below the next. Assumes nothing.
use Rattle.std.proofs.Common.{◌≡◌, ◌-◌}
use mathlib.Core.Bool.{true}
use Rattle.ticks.specs.judging.Refusing.{number_at}
use Rattle.ticks.specs.judging.Numbers.{holds_below}
use Rattle.ticks.proofs.judging.Checks.{step}
use Rattle.ticks.proofs.judging.all_rising.Given as goal

abbrev pub invariant-loop-i : goal.invariant-loop-i
invariant-loop-i l = (holds_below (l.i - 1) (step (number_at l.s)) ≡ true) × (l.before ≡ number_at l.s (l.i - 1))
