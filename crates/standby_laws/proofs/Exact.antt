-- THE OFFSET of a time's exact TAI is TAI-UTC of its date: the whole number whose float `get_tai_utc_offset` gives, at every fraction of the day. Assumes
-- nothing.
use mathlib.Core.Path.{◌≡◌, ap, sym, ◌∙◌}
use mathlib.Core.Bool.{true, false}
use mathlib.Core.List.{List}
use lib.IntN.{pos}
use lib.Signed.{lt_z}
use lib.Ieee.{Float}
use Rattle.refusals.specs.Outcome.{answer}
use Rattle.calendar.specs.Refusals.{valid_date}
use Rattle.calendar.proofs.Accepted.{date-accepted}
use Rattle.calendar.proofs.Mjd.{mjd-given}
use Rattle.leap_table.specs.declared.rows.AnnouncedRows.{AnnouncedRows}
use Rattle.leap_table.specs.rows.Table.{Row, month_number}
use Rattle.leap_table.specs.rows.Announced.{table_of}
use Rattle.leap_table.specs.offsets.Offset.{in_day, tai_utc_offset, whole_f}
use Rattle.leap_table.proofs.offsets.Offsets.{offset-given}
use Rattle.leap_table.proofs.offsets.TableSeconds.{table-seconds}
use Rattle.leap_table.proofs.offsets.WholeSeconds.{late}
use Rattle.standby.specs.declared.UtcTime.{UtcTime}
use Rattle.standby.specs.Times.{offset_on_date}
use Rattle.standby_laws.proofs.Faults.{whole_here}

pub offset-is-tai-utc : (table : AnnouncedRows) (rows : List Row) → table_of table ≡ answer rows → (t : UtcTime) → lt_z t.year (pos 1972) ≡ false
    → valid_date t.year (pos t.month) (pos t.day) ≡ answer tt
    → (f : Float) → in_day f ≡ true → tai_utc_offset rows t.year (pos t.month) (pos t.day) f ≡ answer (whole_f (offset_on_date rows t))
offset-is-tai-utc table rows taken t p v f h =
    let a = date-accepted t.year (pos t.month) (pos t.day) v in
    offset-given rows t.year (pos t.month) (pos t.day) f h _ (mjd-given t.year (pos t.month) (pos t.day) v)
    ∙ ap answer
    (table-seconds table rows taken (month_number t.year t.month) (late t.year t.month p a.m_low) _ f
    ∙ ap whole_f (sym (whole_here table rows taken t.year t.month p a.m_low a.m_high)))
