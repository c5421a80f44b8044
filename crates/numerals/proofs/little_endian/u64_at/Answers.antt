-- `numerals::little_endian::u64_at` meets its contract. Assumes nothing.
use native.Mathlib.Omega.{arith}
use Rattle.numerals.proofs.little_endian.Laws.{absent64, present64}
use Rattle.numerals.proofs.little_endian.u64_at.Goals as goal

pub returns-then-s-lt8 : goal.returns-then-s-lt8
returns-then-s-lt8 c = absent64 _ _ (omega arith)

pub returns-then-s-at : goal.returns-then-s-at
returns-then-s-at c = absent64 _ _ (omega arith)

pub returns : goal.returns
returns c = present64 _ _ c.from_le_bytes.result c.from_le_bytes.ensures (omega arith)
