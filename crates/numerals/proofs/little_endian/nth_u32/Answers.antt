-- `numerals::little_endian::nth_u32` meets its contract: the bytes of the part are those of the list. Assumes nothing.
use native.Mathlib.Omega.{arith}
use Rattle.numerals.proofs.little_endian.Laws.{absent32}
use Rattle.numerals.proofs.little_endian.Parts.{nth_32}
use Rattle.numerals.proofs.little_endian.nth_u32.Goals as goal

pub returns-then-i-s : goal.returns-then-i-s
returns-then-i-s c = absent32 _ _ (omega arith)

pub returns : goal.returns
returns c = nth_32 _ _ _ c.u32_at.ensures (omega arith)
