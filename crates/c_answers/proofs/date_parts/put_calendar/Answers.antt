-- `c_answers::date_parts::put_calendar` meets its contract. Assumes nothing.
use Rattle.refusals.proofs.Handed.{answered, handed}
use Rattle.c_answers.specs.Fields.{calendar_bytes}
use Rattle.c_answers.proofs.Deliveries.{delivered_answer, refused-on}
use Rattle.c_answers.proofs.date_parts.put_calendar.Goals as goal

pub returns-in-Ok : goal.returns-in-Ok
returns-in-Ok c = delivered_answer calendar_bytes c.put_calendar.type_inv _ (answered c.in-Ok.is) c.put_calendar.ensures

pub returns-in-Err : goal.returns-in-Err
returns-in-Err c = refused-on calendar_bytes c.refused.type_inv _ (handed c.in-Err.is) c.refused.ensures
