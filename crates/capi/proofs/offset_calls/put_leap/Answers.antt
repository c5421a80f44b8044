-- `capi::offset_calls::put_leap` meets its contract. Assumes nothing.
use mathlib.Core.Path.{ap}
use Rattle.refusals.specs.Outcome.{onward}
use Rattle.refusals.proofs.Handed.{answered, handed}
use Rattle.leap_table.specs.offsets.Rule.{forget}
use Rattle.c_answers.specs.Fields.{float_bytes}
use Rattle.c_answers.proofs.Deliveries.{delivered_answer, refused-on}
use Rattle.capi.proofs.offset_calls.put_leap.Goals as goal

pub returns-in-Ok : goal.returns-in-Ok
unfolding forget onward
returns-in-Ok c = delivered_answer float_bytes c.put_float.type_inv _ (ap forget (answered c.in-Ok.is)) c.put_float.ensures

pub returns-in-Err : goal.returns-in-Err
unfolding forget onward
returns-in-Err c = refused-on float_bytes c.refused.type_inv _ (ap forget (handed c.in-Err.is)) c.refused.ensures
