-- `capi::reader_calls::put_parsed` meets its contract. Assumes nothing.
use Rattle.refusals.proofs.Handed.{answered, handed}
use Rattle.c_answers.proofs.Deliveries.{delivered_answer, refused-on}
use Rattle.capi.specs.ReaderFields.{parsed_bytes}
use Rattle.capi.proofs.reader_calls.put_parsed.Goals as goal

pub returns-in-Ok : goal.returns-in-Ok
returns-in-Ok c = delivered_answer parsed_bytes c.put_fields.type_inv _ (answered c.in-Ok.is) c.put_fields.ensures

pub returns-in-Err : goal.returns-in-Err
returns-in-Err c = refused-on parsed_bytes c.refused.type_inv _ (handed c.in-Err.is) c.refused.ensures
