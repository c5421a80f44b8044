-- `line_up::keep::rank` meets its contract. Assumes nothing.
use native.Mathlib.Omega.{arith}
use Rattle.line_up.proofs.keep.Searching.{before-many}
use Rattle.line_up.proofs.keep.rank.Goals as goal

pub overflow_add-result : goal.overflow_add-result
overflow_add-result c =
    record {
      fits = omega (arith, before-many _ _ _ _ (c.requires.searchable c.if-number-eq0.true), c.requires.many_bound, c.piles_before.ensures);
    }
