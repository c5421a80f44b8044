-- The date that the Rust's `gregorian_date` (scales/conversions/utc_tai/calendar.rs) gives for a day number. From -68569 to 1,000,000,000 it is the date of
-- that day. Assumes nothing.
use Rattle.std.specs.Prelude.{ℕ, ◌+◌, cond, ℤ, pos, negsuc}
use Rattle.std.specs.Int.Signed.{lt_z}
use Rattle.calendar.specs.declared.CalendarDate.{CalendarDate}
use Rattle.calendar.specs.Calendar.{date, date_at, date_of}

-- the date of day l - 68569, which is l days after -4900-03-01
abbrev pub shifted_date : ℕ → CalendarDate
shifted_date l = date_at (l + 109572)

-- At -68570, the lowest that a caller hands it, the Rust says -4900-02-30 (docs/DIFFERENCES.md). No caller hands it a number outside -68570 to 1,000,000,000;
-- such a number is taken to the nearer end.
unfoldable pub gregorian_date : ℤ → CalendarDate
gregorian_date n =
    cond (lt_z n (negsuc 68568)) (date (negsuc 4899) 2 30)
    (cond (lt_z (pos 1000000000) n) (date_of (pos 1000000000)) (date_of n))
