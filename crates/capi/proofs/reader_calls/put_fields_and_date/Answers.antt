-- `capi::reader_calls::put_fields_and_date` meets its contract. Assumes nothing.
use mathlib.Core.Path.{refl, ◌∙◌}
use Rattle.c_answers.specs.Fields.{julian_bytes}
use Rattle.capi.specs.ReaderFields.{parsed_bytes, parsed_utc_bytes}
use Rattle.c_answers.proofs.Deliveries.{too_short, code-back}
use Rattle.c_answers.proofs.Pieces.{in_two}
use Rattle.capi.proofs.reader_calls.put_fields_and_date.Goals as goal

pub returns-then-out-lt44 : goal.returns-then-out-lt44
unfolding parsed_utc_bytes parsed_bytes julian_bytes
returns-then-out-lt44 c =
    too_short (parsed_utc_bytes c.args.read) c.args.out.now _ c.if-out-lt44.true (code-back c.refused.type_inv ∙ c.refused.ensures)

pub returns : goal.returns
unfolding parsed_utc_bytes parsed_bytes julian_bytes
returns c =
    let a = c.args in
    in_two (parsed_bytes a.read.fields) (julian_bytes a.read.date.0) a.out.now _ _ 28 44 refl refl c.if-out-lt44.false c.put_fields.ensures
    c.put_julian.ensures
