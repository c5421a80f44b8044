-- `line_up::keep::cell_at` meets its contract. Assumes nothing.
use Rattle.std.proofs.Common.{◌∙◌}
use Rattle.line_up.proofs.keep.Cells.{cells_at}
use Rattle.line_up.proofs.keep.cell_at.Goals as goal

pub returns : goal.returns
returns c = c.nth_u32.ensures ∙ cells_at _ _ c.requires
