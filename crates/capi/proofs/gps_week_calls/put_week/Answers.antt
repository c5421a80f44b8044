-- `capi::gps_week_calls::put_week` meets its contract. Assumes nothing.
use Rattle.refusals.proofs.Handed.{answered, handed}
use Rattle.c_answers.proofs.Deliveries.{delivered_answer, refused-on}
use Rattle.capi.specs.WeekBytes.{week_bytes}
use Rattle.capi.proofs.gps_week_calls.put_week.Goals as goal

pub returns-in-Ok : goal.returns-in-Ok
unfolding week_bytes
returns-in-Ok c =
    delivered_answer week_bytes c.put_two_numbers.type_inv _ (answered c.in-Ok.is) c.put_two_numbers.ensures

pub returns-in-Err : goal.returns-in-Err
returns-in-Err c = refused-on week_bytes c.refused.type_inv _ (handed c.in-Err.is) c.refused.ensures
