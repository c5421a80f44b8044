-- `capi::date_calls::put_date` meets its contract. Assumes nothing.
use Rattle.refusals.proofs.Handed.{answered, handed}
use Rattle.c_answers.specs.Fields.{julian_bytes}
use Rattle.c_answers.proofs.Deliveries.{delivered_answer, refused-on}
use Rattle.capi.proofs.date_calls.put_date.Goals as goal

pub returns-in-Ok : goal.returns-in-Ok
returns-in-Ok c =
    delivered_answer julian_bytes c.put_julian.type_inv _ (answered c.in-Ok.is) c.put_julian.ensures

pub returns-in-Err : goal.returns-in-Err
returns-in-Err c = refused-on julian_bytes c.refused.type_inv _ (handed c.in-Err.is) c.refused.ensures
