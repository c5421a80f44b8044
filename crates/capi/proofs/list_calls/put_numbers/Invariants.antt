-- The numbers before place i are put. Assumes nothing.
use mathlib.Core.Path.{◌≡◌}
use Rattle.capi.specs.ListDelivery.{put_to}
use Rattle.capi.proofs.list_calls.put_numbers.Given as goal

abbrev pub invariant-loop-i : goal.invariant-loop-i
invariant-loop-i l = l.out ≡ put_to l.fn.out l.from l.numbers l.i
