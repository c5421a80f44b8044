-- `capi::calendar_calls::put_next` meets its contract. Assumes nothing.
use Rattle.refusals.proofs.Handed.{answered, handed}
use Rattle.c_answers.specs.Fields.{date_bytes}
use Rattle.c_answers.proofs.Deliveries.{delivered_answer, refused-on}
use Rattle.capi.proofs.calendar_calls.put_next.Goals as goal

pub returns-in-Ok : goal.returns-in-Ok
returns-in-Ok c =
    delivered_answer date_bytes c.put_date.type_inv _ (answered c.in-Ok.is) c.put_date.ensures

pub returns-in-Err : goal.returns-in-Err
returns-in-Err c = refused-on date_bytes c.refused.type_inv _ (handed c.in-Err.is) c.refused.ensures
