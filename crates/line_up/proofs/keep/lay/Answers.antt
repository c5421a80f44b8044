-- `line_up::keep::lay` meets its contract. Assumes nothing.
use native.Mathlib.Omega.{arith}
use Rattle.std.proofs.Common.{◌∙◌}
use Rattle.line_up.proofs.keep.Dates.{finite-at, date-order}
use Rattle.line_up.proofs.keep.Laying.{laying_searchable, laying_rank, laying_goes, laying_ends, many-room, larger_is}
use Rattle.line_up.proofs.keep.lay.Goals as goal

pub rank-r-requires-clause-searchable : goal.rank-r-requires-clause-searchable
rank-r-requires-clause-searchable c e =
    laying_searchable _ _ (date-order _ _) _ _ _ _ _ c.requires.layable (λ p x y z. finite-at _ _ p (c.requires.ordered p x y z))
    _ _ _ _ c.loop-i.invariant c.loop-i-test.true e

pub put_tail-requires-clause-r_in_bounds : goal.put_tail-requires-clause-r_in_bounds
put_tail-requires-clause-r_in_bounds c =
    let r = laying_rank _ _ (date-order _ _) _ _ _ _ _ c.requires.layable (λ p x y z. finite-at _ _ p (c.requires.ordered p x y z))
    _ _ _ _ c.loop-i.invariant c.loop-i-test.true in
    let m = many-room _ _ (date-order _ _) _ _ _ _ _ c.requires.layable (λ p x y z. finite-at _ _ p (c.requires.ordered p x y z))
    _ _ _ _ c.loop-i.invariant c.loop-i-test.true in
    omega (arith, r, m, c.rank-r.ensures)

pub put_cell-requires-clause-p_bound : goal.put_cell-requires-clause-p_bound
put_cell-requires-clause-p_bound c =
    let r = laying_rank _ _ (date-order _ _) _ _ _ _ _ c.requires.layable (λ p x y z. finite-at _ _ p (c.requires.ordered p x y z))
    _ _ _ _ c.loop-i.invariant c.loop-i-test.true in
    omega (arith, r, c.rank-r.ensures, c.requires.layable.small)

pub loop-i-preserved : goal.loop-i-preserved
loop-i-preserved c =
    laying_goes _ _ (date-order _ _) _ _ _ _ _ c.requires.layable (λ p x y z. finite-at _ _ p (c.requires.ordered p x y z))
    _ _ _ _ c.loop-i.invariant c.loop-i-test.true
    _ _ _ _ c.rank-r.ensures c.put_tail.ensures c.put_cell.ensures (c.max-many.ensures ∙ larger_is _ _)

pub returns : goal.returns
returns c =
    laying_ends _ _ (date-order _ _) _ _ _ _ _ c.requires.layable (λ p x y z. finite-at _ _ p (c.requires.ordered p x y z))
    _ _ _ _ c.loop-i.invariant c.loop-i-test.false
