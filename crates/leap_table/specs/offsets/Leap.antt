-- TAI-UTC at the start, the middle and the end of a day, and the leap at its end: the Rust's `leap_at_end_of_day` (scales/utc/mod.rs) and the offsets of
-- `stretch_day_fraction` (scales/conversions/utc_tai/mod.rs), which look the offsets up in the same order and put them together in another. Assumes nothing.
use Rattle.std.specs.Prelude.{ℕ, false, List, ℤ, pos, Float}
use Rattle.std.proofs.Math.IntN.{suc_ℤ}
use Rattle.std.specs.Float.{fin, binary64}
use Rattle.std.specs.Float.Ieee.{add, sub, mul, of_int}
use Rattle.refusals.specs.Outcome.{Outcome, answer, onward}
use Rattle.floats.specs.Whole.{nought, half}
use Rattle.calendar.specs.Refusals.{next_of}
use Rattle.leap_table.specs.declared.offsets.DayOffsets.{DayOffsets}
use Rattle.leap_table.specs.rows.Table.{Row}
use Rattle.leap_table.specs.offsets.Offset.{offset_at, tai_utc_offset}

abbrev pub two_f : Float
two_f = fin false 1 (pos 1)

abbrev pub offsets : Float → Float → Float → DayOffsets
offsets a b c = record { at_0h = a; at_12h = b; at_24h = c }

-- the offsets at 0h, at 12h, and at 0h of the next day; refusals 1 to 3, then 5 where there is no next day
unfoldable pub day_offsets : List Row → ℤ → ℤ → ℤ → Outcome DayOffsets
day_offsets rows y m d =
    onward (tai_utc_offset rows y m d nought) (λ a.
    onward (tai_utc_offset rows y m d half) (λ b.
    onward (next_of y m d) (λ t.
    onward (tai_utc_offset rows t.year (pos t.month) (pos t.day) nought) (λ c.
    answer (offsets a b c)))))

-- the same of a date whose month is `month`, whose next date's month is `next`, and whose Modified Julian Date is n
unfoldable pub offsets_of_day : List Row → ℕ → ℕ → ℤ → DayOffsets
offsets_of_day rows month next n =
    offsets (offset_at rows month (of_int binary64 n) nought) (offset_at rows month (of_int binary64 n) half)
    (offset_at rows next (of_int binary64 (suc_ℤ n)) nought)

-- how far the offset at 24h lies above the line through those at 0h and at 12h
unfoldable pub leap_of : DayOffsets → Float
leap_of o = sub binary64 o.at_24h (sub binary64 (mul binary64 two_f o.at_12h) o.at_0h)

-- document 01's leap, "`leap_at_end_of_day` of the calendar's day"
unfoldable pub leap_at_end_of_day : List Row → ℤ → ℤ → ℤ → Outcome Float
leap_at_end_of_day rows y m d = onward (day_offsets rows y m d) (λ o. answer (leap_of o))

-- the drift across the day, and the leap by it, in the order of `stretch_day_fraction`
unfoldable pub drift_rate : DayOffsets → Float
drift_rate o = mul binary64 two_f (sub binary64 o.at_12h o.at_0h)

unfoldable pub leap_amount : DayOffsets → Float
leap_amount o = sub binary64 o.at_24h (add binary64 o.at_0h (drift_rate o))
