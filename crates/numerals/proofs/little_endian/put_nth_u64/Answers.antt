-- `numerals::little_endian::put_nth_u64` meets its contract. Assumes nothing.
use native.Mathlib.Omega.{arith}
use Rattle.numerals.proofs.little_endian.Puts.{no_place_64, nth_put_64}
use Rattle.numerals.proofs.little_endian.put_nth_u64.Goals as goal

pub returns-then-i-out : goal.returns-then-i-out
returns-then-i-out c = no_place_64 _ _ _ (omega arith)

pub returns : goal.returns
returns c = nth_put_64 _ _ _ _ c.put_u64.ensures (omega arith)
