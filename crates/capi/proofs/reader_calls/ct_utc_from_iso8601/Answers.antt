-- `capi::reader_calls::ct_utc_from_iso8601` meets its contract. Assumes nothing.
use Rattle.capi.specs.ReaderFields.{parsed_utc_bytes}
use Rattle.capi.proofs.Arrays.{lent_refused, with_announced}
use Rattle.capi.proofs.reader_calls.ct_utc_from_iso8601.Goals as goal

pub returns-in-Err : goal.returns-in-Err
returns-in-Err c =
    lent_refused _ _ c.read_table.result c.read_table.ensures parsed_utc_bytes _ c.refused.type_inv _ c.in-Err.is c.refused.ensures

pub returns : goal.returns
returns c =
    with_announced _ _ c.read_table.result c.read_table.ensures parsed_utc_bytes _ c.put_parsed_utc.type_inv c.in_default.not-Err
    c.from_str_by_rows.ensures c.put_parsed_utc.ensures
