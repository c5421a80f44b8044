-- `ticks::put_number` meets its contract. Assumes nothing.
use Prim.Native.Nat.{◌+◌, ◌-◌}
use native.Mathlib.Omega.{arith}
use Rattle.numerals.proofs.little_endian.Puts.{put_in_place}
use Rattle.ticks.proofs.put_number.Goals as goal

pub returns : goal.returns
returns c =
    put_in_place c.args.out.now _ c.args.at (c.args.at + 8 - c.args.at) c.args.n (omega arith) c.requires c.put_u64.ensures
