-- `capi::list_calls::ct_table_fault` meets its contract. Assumes nothing.
use Rattle.capi.proofs.Lists.{no_line, at_line}
use Rattle.capi.proofs.list_calls.ct_table_fault.Goals as goal

pub returns-in-Ok : goal.returns-in-Ok
returns-in-Ok c = no_line c.in-Ok.field-0 c.in-Ok.ensures

pub returns-in-Err : goal.returns-in-Err
returns-in-Err c = at_line c.in-Err.fault c.in-Err.ensures c.min.ensures
