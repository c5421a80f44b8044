-- `capi_c::utc_calls::ct_utc_from_calendar` meets its contract: the year is read back from its bits. Assumes nothing.
use Rattle.std.proofs.Common.{w32, to_z-of_z}
use Rattle.refusals.specs.Outcome.{onward}
use Rattle.utc.specs.FromCalendar.{utc_from_calendar}
use Rattle.c_answers.specs.table.TableBytes.{table_bytes}
use Rattle.c_answers.specs.Fields.{julian_bytes}
use Rattle.c_answers.proofs.Deliveries.{same_outcome}
use Rattle.capi_c.proofs.utc_calls.ct_utc_from_calendar.Goals as goal

pub returns : goal.returns
returns c =
    let a = c.args in
    let year = to_z-of_z {w = w32} c.ranges.year in
    same_outcome julian_bytes c.ct_utc_from_calendar.type_inv
    (λ i. onward (table_bytes a.table.now) (λ rows. utc_from_calendar rows (year i) a.month a.day a.hour a.minute a.second)) c.ct_utc_from_calendar.ensures
