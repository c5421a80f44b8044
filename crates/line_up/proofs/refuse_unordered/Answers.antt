-- `line_up::refuse_unordered` meets its contract. Assumes nothing.
use native.Mathlib.Omega.{arith}
use Rattle.line_up.proofs.Testing.{testing_goes, testing_ends}
use Rattle.line_up.proofs.refuse_unordered.Goals as goal

pub loop-i-preserved : goal.loop-i-preserved
loop-i-preserved c = testing_goes _ _ _ _ _ c.loop-i.invariant (omega arith) c.tested.ensures

pub returns : goal.returns
returns c = testing_ends _ _ _ _ c.loop-i.invariant (omega arith)
