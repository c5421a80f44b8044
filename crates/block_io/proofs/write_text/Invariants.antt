-- What `block_io::write_text` keeps from write to write: the bytes that went out are some of the text. The measure is how many are left.
use Rattle.std.proofs.Common.{length, ◌-◌, ◌≤◌}
use Rattle.block_io.proofs.write_text.Given as goal

abbrev pub invariant-loop-done : goal.invariant-loop-done
invariant-loop-done g l = l.done ≤ length l.text

abbrev pub decreases-loop-done : goal.decreases-loop-done
decreases-loop-done g l = length l.text - l.done
