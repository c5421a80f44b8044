-- `numerals::little_endian::nth_u64` meets its contract: the bytes of the part are those of the list. Assumes nothing.
use native.Mathlib.Omega.{arith}
use Rattle.numerals.proofs.little_endian.Laws.{absent64}
use Rattle.numerals.proofs.little_endian.Parts.{nth_64}
use Rattle.numerals.proofs.little_endian.nth_u64.Goals as goal

pub returns-then-i-s : goal.returns-then-i-s
returns-then-i-s c = absent64 _ _ (omega arith)

pub returns : goal.returns
returns c = nth_64 _ _ _ c.u64_at.ensures (omega arith)
