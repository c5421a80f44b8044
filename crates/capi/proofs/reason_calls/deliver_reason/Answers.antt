-- `capi::reason_calls::deliver_reason` meets its contract. Assumes nothing.
use native.Mathlib.Omega.{arith}
use Rattle.capi.proofs.Texts.{text-count, text-put, text_refused}
use Rattle.capi.proofs.reason_calls.deliver_reason.Goals as goal

pub overflow_cast-result : goal.overflow_cast-result
overflow_cast-result c = record {
  sfits = omega (arith, text-count c.put_reason.ensures _ c.in-Ok.is, c.well_formed);
}

pub returns-in-Ok : goal.returns-in-Ok
returns-in-Ok c =
    text-put c.put_reason.ensures _ c.in-Ok.is
    (omega (arith, text-count c.put_reason.ensures _ c.in-Ok.is, c.well_formed))

pub returns-in-Err : goal.returns-in-Err
returns-in-Err c =
    text_refused c.put_reason.ensures _ c.refused.type_inv c.in-Err.is c.refused.ensures
