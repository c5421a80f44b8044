-- `capi::block_calls::ct_block_stamps` meets its contract. Assumes nothing.
use Rattle.capi.proofs.BlockStamps.{stamps-fit, stamps-are, block_refused}
use Rattle.capi.proofs.block_calls.ct_block_stamps.Goals as goal

pub overflow_cast-result : goal.overflow_cast-result
overflow_cast-result c = stamps-fit _ c.block_stamps.ensures _ c.in-Ok.is

pub returns-in-Ok : goal.returns-in-Ok
returns-in-Ok c = stamps-are _ c.block_stamps.ensures _ c.in-Ok.is

pub returns-in-Err : goal.returns-in-Err
returns-in-Err c = block_refused _ c.block_stamps.ensures _ c.refused.type_inv c.in-Err.is c.refused.ensures
