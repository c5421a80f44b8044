-- `capi::text_calls::ct_to_iso8601` meets its contract. Assumes nothing.
use Rattle.capi.proofs.Arrays.{text-lent-refused, text-with-announced}
use Rattle.capi.proofs.text_calls.ct_to_iso8601.Goals as goal

pub returns-in-Err : goal.returns-in-Err
returns-in-Err c =
    text-lent-refused _ _ _ c.read_table.ensures _ c.refused.type_inv _ c.in-Err.is c.refused.ensures

pub returns : goal.returns
returns c =
    text-with-announced _ _ _ c.read_table.ensures _ c.put_text.type_inv c.in_default.not-Err
    c.put_text.ensures
