-- `capi::reader_calls::put_fields` meets its contract. Assumes nothing.
use mathlib.Core.Path.{refl, ◌∙◌}
use mathlib.Core.List.{◌++◌}
use mir.Syntax.{w32}
use mir.Facts.{to_z-of_z}
use borrow.Author.Rules.{rules}
use Rattle.numerals.specs.little_endian.LittleEndian.{pattern_of}
use Rattle.c_answers.specs.Fields.{four_bytes, float_bytes, date_bytes}
use Rattle.capi.specs.ReaderFields.{parsed_bytes}
use Rattle.c_answers.proofs.Deliveries.{too_short, code-back}
use Rattle.c_answers.proofs.Pieces.{in_three, of_bytes}
use Rattle.capi.proofs.reader_calls.put_fields.Goals as goal

pub returns-then-out-lt28 : goal.returns-then-out-lt28
unfolding parsed_bytes
returns-then-out-lt28 c = too_short (parsed_bytes c.args.fields) c.args.out.now _ c.if-out-lt28.true (code-back c.refused.type_inv ∙ c.refused.ensures)

pub returns : goal.returns
unfolding parsed_bytes date_bytes
returns c =
    let a = c.args in
    let f = a.fields in
    let e = to_z-of_z {w = w32} {z = f.year} (search rules) in
    of_bytes (λ i. four_bytes (pattern_of (e i))
    ++ (four_bytes f.month ++ (four_bytes f.day ++ (four_bytes f.hour ++ (four_bytes f.minute ++ float_bytes f.second)))))
    (in_three _ (four_bytes f.hour ++ four_bytes f.minute) (float_bytes f.second) a.out.now _ _ _ _ 12 20 28 refl refl refl
    c.if-out-lt28.false c.put_date.ensures c.put_two_numbers.ensures refl c.put_float.ensures)
