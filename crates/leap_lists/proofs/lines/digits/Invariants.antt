-- The loop of `leap_lists::lines::digits`: what is read so far, and how many digits may follow.
use Rattle.std.proofs.Common.{◌-◌}
use Rattle.leap_lists.proofs.lines.Runs.{RunsOn}
use Rattle.leap_lists.proofs.lines.digits.Given as goal

abbrev pub invariant-loop-i : goal.invariant-loop-i
invariant-loop-i l = RunsOn l.most 0 l.s l.value l.i (l.most - l.i)
