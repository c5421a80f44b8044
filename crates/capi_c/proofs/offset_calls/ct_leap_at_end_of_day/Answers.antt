-- `capi_c::offset_calls::ct_leap_at_end_of_day` meets its contract: the three numbers are read back from their bits. Assumes nothing.
use Rattle.std.proofs.Common.{w32, to_z-of_z}
use Rattle.refusals.specs.Outcome.{onward}
use Rattle.leap_table.specs.offsets.Leap.{leap_at_end_of_day}
use Rattle.c_answers.specs.table.TableBytes.{table_bytes}
use Rattle.c_answers.specs.Fields.{float_bytes}
use Rattle.c_answers.proofs.Deliveries.{same_outcome}
use Rattle.capi_c.proofs.offset_calls.ct_leap_at_end_of_day.Goals as goal

pub returns : goal.returns
returns c =
    let year = to_z-of_z {w = w32} c.ranges.year in
    let month = to_z-of_z {w = w32} c.ranges.month in
    let day = to_z-of_z {w = w32} c.ranges.day in
    same_outcome float_bytes c.ct_leap_at_end_of_day.type_inv
    (λ i. onward (table_bytes c.args.table.now) (λ rows. leap_at_end_of_day rows (year i) (month i) (day i))) c.ct_leap_at_end_of_day.ensures
