-- What is left to judge is the dates from i on, after `before`.
use Rattle.std.proofs.Common.{◌≡◌, ℕ, ◌<◌, ◌-◌}
use Rattle.leap_table.specs.declared.judging.Triple.{Triple}
use Rattle.leap_table.specs.judging.Judging.{judged_all, judged_after}
use Rattle.leap_table.specs.judging.Lists.{dates_from}
use Rattle.leap_table.proofs.judging.judge_all.Given as goal

abbrev pub invariant-loop-i : goal.invariant-loop-i
invariant-loop-i g l = (f : ℕ → Triple) → ((i : ℕ) (t : Triple) → i < l.n → goal.F-post g l.date i t → t ≡ f i)
    → judged_all (dates_from f 0 l.n) ≡ judged_after l.before (dates_from f l.i (l.n - l.i))
