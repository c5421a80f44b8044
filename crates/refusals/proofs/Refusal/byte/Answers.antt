-- `refusals::Refusal::byte` meets its contract: each case computes. By `omega`, so that another number is seen to differ. Assumes nothing.
use native.Mathlib.Omega.{arith}
use Rattle.refusals.proofs.Tags.{by_tag}
use Rattle.refusals.proofs.Refusal.byte.Goals as goal

pub returns : goal.returns
returns c = omega (arith, by_tag c.args.self)
