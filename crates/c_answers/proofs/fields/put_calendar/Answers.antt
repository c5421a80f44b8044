-- `c_answers::fields::put_calendar` meets its contract. Assumes nothing.
use mathlib.Core.Path.{refl}
use Rattle.c_answers.specs.Fields.{date_bytes, float_bytes, calendar_bytes}
use Rattle.c_answers.proofs.Deliveries.{no_room}
use Rattle.c_answers.proofs.Pieces.{in_two}
use Rattle.c_answers.proofs.fields.put_calendar.Goals as goal

pub returns-then-out-lt20 : goal.returns-then-out-lt20
unfolding calendar_bytes date_bytes
returns-then-out-lt20 c = no_room (calendar_bytes c.args.shown) c.refused.type_inv c.if-out-lt20.true c.refused.ensures

pub returns : goal.returns
unfolding calendar_bytes date_bytes
returns c =
    let f = c.args.shown in
    in_two (date_bytes f.date) (float_bytes f.fraction) c.args.out.now _ _ 12 20 refl refl c.if-out-lt20.false c.put_date.ensures c.put_float.ensures
