-- `capi::reader_calls::ct_parse_iso8601` meets its contract. Assumes nothing.
use Rattle.capi.specs.ReaderFields.{parsed_bytes}
use Rattle.c_answers.proofs.Deliveries.{same_outcome}
use Rattle.capi.proofs.reader_calls.ct_parse_iso8601.Goals as goal

pub returns : goal.returns
returns c = same_outcome parsed_bytes c.put_parsed.type_inv c.parse_iso8601.ensures c.put_parsed.ensures
