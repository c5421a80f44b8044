-- `capi::list_calls::put_table` meets its contract. Assumes nothing.
use Rattle.capi.proofs.Lists.{put_all}
use Rattle.capi.proofs.list_calls.put_table.Goals as goal

pub returns : goal.returns
returns c =
    put_all c.args.table c.args.out.now _ _ _ _ c.put_nth_u32.ensures c.put_nth_u32-2.ensures c.put_numbers.ensures c.put_numbers-2.ensures
