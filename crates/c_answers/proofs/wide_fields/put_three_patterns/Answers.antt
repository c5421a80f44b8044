-- `c_answers::wide_fields::put_three_patterns` meets its contract. Assumes nothing.
use mathlib.Core.Path.{refl}
use mathlib.Core.List.{◌++◌}
use Rattle.numerals.specs.little_endian.LittleEndian.{eight_bytes}
use Rattle.c_answers.specs.WideFields.{three_eights}
use Rattle.c_answers.proofs.Deliveries.{no_room}
use Rattle.c_answers.proofs.Pieces.{in_two, of_bytes}
use Rattle.c_answers.proofs.wide_fields.put_three_patterns.Goals as goal

pub returns-then-out-lt24 : goal.returns-then-out-lt24
returns-then-out-lt24 c =
    let a = c.args in
    no_room (three_eights a.a a.b a.c) c.refused.type_inv c.if-out-lt24.true c.refused.ensures

pub returns : goal.returns
returns c =
    let a = c.args in
    in_two (eight_bytes a.a ++ eight_bytes a.b) (eight_bytes a.c) a.out.now _ _ 16 24 refl refl c.if-out-lt24.false
    (of_bytes c.two_patterns-first.ensures c.put.ensures) (of_bytes c.bytes_of_u64-last.ensures c.put-2.ensures)
