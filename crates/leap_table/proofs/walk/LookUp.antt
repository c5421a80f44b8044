-- Each offset is that of document 01's look-up of one date at fraction 0; and the order by which 17 is given is the order of the days. Assumes nothing.
use Rattle.std.proofs.Common.{◌≡◌, List}
use Rattle.refusals.specs.Outcome.{answer}
use Rattle.floats.specs.Whole.{nought}
use Rattle.calendar.specs.DayCount.{mjd_number}
use Rattle.calendar.proofs.Mjd.{mjd-given}
use Rattle.leap_table.specs.rows.Table.{Row}
use Rattle.leap_table.specs.offsets.Offset.{tai_utc_offset}
use Rattle.leap_table.proofs.offsets.Offsets.{in_day_zero, offset-given}
use Rattle.leap_table.specs.declared.judging.Triple.{Triple}
use Rattle.leap_table.specs.judging.Judging.{valid_triple}
use Rattle.leap_table.specs.walk.Walk.{triple_offset}

-- EACH OFFSET is the one that the look-up gives for its date
pub offset-of-look-up : (rows : List Row) (t : Triple) → valid_triple t ≡ answer tt
    → tai_utc_offset rows t.year t.month t.day nought ≡ answer (triple_offset rows t)
unfolding triple_offset
offset-of-look-up rows t e = offset-given rows t.year t.month t.day nought in_day_zero (mjd_number t.year t.month t.day)
    (mjd-given t.year t.month t.day e)
