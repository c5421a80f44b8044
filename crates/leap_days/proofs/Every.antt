-- EVERY LEAP by the fixed table: at the end of any day it is at most 0.5 s in size, or exactly 1.0, or that of 1959-12-31; and it is the same in both orders of
-- rounding. Assumes nothing.
use mathlib.Core.Path.{◌≡◌, refl, ap, ◌∙◌}
use lib.IntN.{ℤ, pos, nat_abs}
use lib.Ieee.{Float}
use Rattle.refusals.specs.Outcome.{answer, onward}
use Rattle.calendar.specs.Calendar.{lengths, leap_size, days_in_month, date, next}
use Rattle.calendar.specs.Refusals.{valid_date, next_of}
use Rattle.leap_table.specs.rows.Table.{fixed, month_number}
use Rattle.leap_table.specs.offsets.Leap.{day_offsets, leap_of, leap_at_end_of_day, leap_amount}
use Rattle.leap_table.specs.declared.offsets.DayOffsets.{DayOffsets}
use Rattle.leap_table.proofs.rows.NoRows.{none-announced, fixed-taken}
use Rattle.leap_table.proofs.offsets.Days.{leap-given}
use Rattle.time_of_day.specs.ExactTime.{leap1959}
use Rattle.leap_days.specs.Leaps.{TableLeap}
use Rattle.leap_days.proofs.Before1972.{last_of_1959}
use Rattle.leap_days.proofs.TableLeaps.{table-leap, table-both-orders, table-only-1959}

pub every_leap : (y m d : ℤ) (x : Float) → leap_at_end_of_day fixed y m d ≡ answer x → TableLeap x
every_leap = table-leap none-announced fixed fixed-taken

pub both_orders : (y m d : ℤ) (o : DayOffsets) → day_offsets fixed y m d ≡ answer o → leap_amount o ≡ leap_of o
both_orders = table-both-orders none-announced fixed fixed-taken

-- ---- the leap of 1959-12-31, and of no other day
pub leap-of-1959 : leap_at_end_of_day fixed (pos 1959) (pos 12) (pos 31) ≡ answer leap1959
unfolding next_of next valid_date days_in_month lengths leap_size onward month_number
leap-of-1959 = leap-given fixed (pos 1959) (pos 12) (pos 31) (date (pos 1960) 1 1) refl ∙ ap answer last_of_1959.0

pub only-1959 : (y m d : ℤ) → leap_at_end_of_day fixed y m d ≡ answer leap1959 → (y ≡ pos 1959) × (nat_abs m ≡ 12) × (nat_abs d ≡ 31)
only-1959 = table-only-1959 none-announced fixed fixed-taken
