-- `ticks::judging::number_at` meets its contract: the eight bytes of the part are those of the list. Assumes nothing.
use Prim.Native.Nat.{ℕ, ◌+◌, ◌-◌, ◌*◌}
use native.Mathlib.Omega.{arith}
use mathlib.Core.Path.{◌≡◌, ap, ◌∙◌}
use lib.ListN.{take, drop}
use Rattle.numerals.specs.little_endian.LittleEndian.{u64_at}
use Rattle.numerals.proofs.little_endian.Parts.{eight_in_part}
use Rattle.ticks.proofs.judging.number_at.Goals as goal

pub returns : goal.returns
returns c =
    let l = c.args.s.now in
    let i = c.args.i in
    let e : 8 * i + 8 - 8 * i ≡ 8 = omega arith in
    c.u64_at.ensures ∙ ap (λ (n : ℕ). u64_at (take n (drop (8 * i) l)) 0) e ∙ eight_in_part l (8 * i) c.requires
