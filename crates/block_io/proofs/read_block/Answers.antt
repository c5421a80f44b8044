-- `block_io::read_block` meets its contract: a read brings no more than there is room for. Assumes nothing.
use native.Mathlib.Omega.{arith}
use borrow.Author.Rules.{rules}
use Rattle.block_io.proofs.read_block.Goals as goal

pub loop-done-preserved : goal.loop-done-preserved
loop-done-preserved g c = (omega (arith, c.in-Ok.ensures.bound.0), search rules)
