-- `since_launch::nearest_count` meets its contract. Assumes nothing.
use mathlib.Core.Path.{sym, subst}
use Prim.Native.Nat.{ℕ, ◌≤◌}
use Rattle.since_launch.proofs.Counts.{two-parts, count_most}
use Rattle.since_launch.proofs.nearest_count.Goals as goal

pub returns : goal.returns
returns c =
    let u = c.args.units in
    (two-parts u, subst (λ (k : ℕ). k ≤ 172800000) (sym (two-parts u)) (count_most u c.requires))
