-- `numerals::little_endian::put_nth_u32` meets its contract. Assumes nothing.
use native.Mathlib.Omega.{arith}
use Rattle.numerals.proofs.little_endian.Puts.{no_place_32, nth_put_32}
use Rattle.numerals.proofs.little_endian.put_nth_u32.Goals as goal

pub returns-then-i-out : goal.returns-then-i-out
returns-then-i-out c = no_place_32 _ _ _ (omega arith)

pub returns : goal.returns
returns c = nth_put_32 _ _ _ _ c.put_u32.ensures (omega arith)
