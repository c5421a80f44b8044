-- `floats_c::ct_saturating_i64` meets its contract, as what it calls does: by hand, so that a cast to another width is seen to differ. Assumes nothing.
use mathlib.Core.Path.{◌∙◌}
use mir.Syntax.{w64}
use mir.Facts.{to_z-of_z}
use borrow.Author.Rules.{rules}
use Rattle.floats_c.proofs.ct_saturating_i64.Goals as goal

pub returns : goal.returns
returns c = to_z-of_z {w = w64} {z = c.saturating_i64.result} (search rules) ∙ c.saturating_i64.ensures
