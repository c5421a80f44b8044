-- `numerals::little_endian::u32_at` meets its contract. Assumes nothing.
use native.Mathlib.Omega.{arith}
use mathlib.Core.Path.{◌≡◌, ◌∙◌}
use Rattle.numerals.specs.little_endian.LittleEndian.{four_at}
use Rattle.numerals.proofs.little_endian.Laws.{absent32, present32}
use Rattle.numerals.proofs.little_endian.u32_at.Goals as goal

pub returns-then-s-lt4 : goal.returns-then-s-lt4
returns-then-s-lt4 c = absent32 _ _ (omega arith)

pub returns-then-s-at : goal.returns-then-s-at
returns-then-s-at c = absent32 _ _ (omega arith)

pub returns : goal.returns
unfolding four_at
returns c =
    let e : c.from_le_bytes.result ≡ four_at c.args.s.now c.args.at = omega (arith, c.from_le_bytes.ensures) in
    e ∙ present32 _ _ (omega arith)
