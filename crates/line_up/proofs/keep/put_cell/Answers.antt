-- `line_up::keep::put_cell` meets its contract. Assumes nothing.
use native.Mathlib.Omega.{arith}
use Rattle.std.proofs.Common.{ap, ◌∙◌}
use Rattle.numerals.proofs.little_endian.Puts.{put-32-is}
use Rattle.line_up.specs.keep.Cells.{cells}
use Rattle.line_up.proofs.keep.Cells.{length-low, cells-put}
use Rattle.line_up.proofs.keep.put_cell.Goals as goal

pub returns : goal.returns
returns c =
    ap cells (c.put_nth_u32.ensures ∙ put-32-is _ _ _ (omega (arith, length-low c.args.tails.now, c.requires.k_in_bounds)))
    ∙ cells-put _ _ _ c.requires.k_in_bounds c.requires.p_bound
