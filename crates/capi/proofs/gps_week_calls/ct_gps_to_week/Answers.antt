-- `capi::gps_week_calls::ct_gps_to_week` meets its contract. Assumes nothing.
use Rattle.c_answers.proofs.Deliveries.{same_outcome}
use Rattle.capi.specs.WeekBytes.{week_bytes}
use Rattle.capi.proofs.gps_week_calls.ct_gps_to_week.Goals as goal

pub returns : goal.returns
returns c =
    same_outcome week_bytes c.put_week.type_inv c.to_week.ensures c.put_week.ensures
