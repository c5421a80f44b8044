-- `block_io::write_text` meets its contract: a write takes no more than what is left. Assumes nothing.
use native.Mathlib.Omega.{arith}
use Rattle.block_io.proofs.write_text.Goals as goal

pub loop-done-preserved : goal.loop-done-preserved
loop-done-preserved g c = omega (arith, c.in-Ok.ensures.bound)
