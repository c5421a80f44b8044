-- `c_answers::table::arrays::put_numbers` meets its contract: the places before i are read. Assumes nothing.
use native.Mathlib.Omega.{arith}
use native.Mathlib.Nat.{not-suc-le-zero}
use mathlib.Core.Path.{◌∙◌}
use mir.Syntax.{w32}
use mir.Facts.{to_z-of_z}
use Rattle.c_answers.proofs.table.Reading.{one-more-read}
use Rattle.c_answers.proofs.table.arrays.put_numbers.Goals as goal

pub loop-i-init : goal.loop-i-init
loop-i-init c = (c.told-numbers, λ k h. absurd (not-suc-le-zero h))

pub loop-i-preserved : goal.loop-i-preserved
loop-i-preserved c =
    let v = c.loop-i.invariant in
    one-more-read c.args.bytes.now c.args.at c.loop-i.i c.loop-i.numbers _ v.0 c.loop-i-test.true
    (to_z-of_z {w = w32} {z = c.i32_at.result} (record { sfits = c.i32_at.type_inv }) ∙ c.i32_at.ensures) v.1

pub returns : goal.returns
returns c = λ i h. c.loop-i.invariant.1 i (omega (arith, c.loop-i-test.false))
