-- `capi_c::utc_calls::ct_utc_new` meets its contract: the seconds are read back from their bits. Assumes nothing.
use Rattle.std.proofs.Common.{w64, to_z-of_z}
use Rattle.refusals.specs.Outcome.{onward}
use Rattle.utc.specs.UnixTime.{utc_new}
use Rattle.c_answers.specs.table.TableBytes.{table_bytes}
use Rattle.c_answers.specs.Fields.{julian_bytes}
use Rattle.c_answers.proofs.Deliveries.{same_outcome}
use Rattle.capi_c.proofs.utc_calls.ct_utc_new.Goals as goal

pub returns : goal.returns
returns c =
    let seconds = to_z-of_z {w = w64} c.ranges.seconds in
    same_outcome julian_bytes c.ct_utc_new.type_inv (λ i. onward (table_bytes c.args.table.now) (λ rows. utc_new rows (seconds i) c.args.nanos))
    c.ct_utc_new.ensures
