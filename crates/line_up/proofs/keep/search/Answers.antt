-- `line_up::keep::search` meets its contract. Assumes nothing.
use native.Mathlib.Omega.{arith}
use Rattle.std.proofs.Common.{sym, ◌∙◌}
use Rattle.line_up.proofs.keep.Searching.{search_starts, search_below}
use Rattle.line_up.proofs.keep.search.Goals as goal

pub loop-low-init : goal.loop-low-init
loop-low-init c = search_starts _ _ _ _ c.requires

pub loop-low-preserved-then-sooner_at : goal.loop-low-preserved-then-sooner_at
loop-low-preserved-then-sooner_at c =
    search_below _ _ _ _ c.requires _ _ _ _ c.cell_at.ensures (sym c.sooner_at.ensures ∙ c.if-sooner_at.true) (omega arith) c.loop-low.invariant
