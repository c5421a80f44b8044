-- `line_up::keep::piles_before` meets its contract. Assumes nothing.
use native.Mathlib.Omega.{arith}
use Rattle.std.proofs.Common.{sym, ◌∙◌}
use Rattle.line_up.proofs.keep.Searching.{none_before, last-before}
use Rattle.line_up.proofs.keep.piles_before.Goals as goal

pub returns-then-many-eq0 : goal.returns-then-many-eq0
returns-then-many-eq0 c = none_before _ _ _ _ c.requires c.if-many-eq0.true

pub returns : goal.returns
returns c =
    last-before _ _ _ _ c.requires _ (omega (arith, c.if-many-eq0.false)) c.cell_at.ensures (sym c.sooner_at.ensures ∙ c.if-sooner_at.false)
