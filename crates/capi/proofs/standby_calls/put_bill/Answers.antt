-- `capi::standby_calls::put_bill` meets its contract. Assumes nothing.
use Rattle.refusals.proofs.Handed.{answered, handed}
use Rattle.c_answers.proofs.Deliveries.{delivered_answer, refused-on}
use Rattle.capi.specs.BillBytes.{bill_bytes}
use Rattle.capi.proofs.standby_calls.put_bill.Goals as goal

pub returns-in-Ok : goal.returns-in-Ok
unfolding bill_bytes
returns-in-Ok c = delivered_answer bill_bytes c.put_three_patterns.type_inv _ (answered c.in-Ok.is) c.put_three_patterns.ensures

pub returns-in-Err : goal.returns-in-Err
returns-in-Err c = refused-on bill_bytes c.refused.type_inv _ (handed c.in-Err.is) c.refused.ensures
