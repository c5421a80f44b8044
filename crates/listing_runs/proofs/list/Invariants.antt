-- The lines that are told never pass the last, and the scratch keeps its length. The measure is the number of lines that can be left.
use lib.ListN.{length}
use mathlib.Core.Path.{◌≡◌}
use Prim.Native.Nat.{◌-◌, ◌≤◌}
use Rattle.listing_runs.proofs.list.Given as goal

abbrev pub invariant-loop-scratch : goal.invariant-loop-scratch
invariant-loop-scratch l = (l.line ≤ 4001) × (4096 ≡ length l.scratch)

abbrev pub decreases-loop-scratch : goal.decreases-loop-scratch
decreases-loop-scratch l = 4001 - l.line
