-- TAI-UTC at a fraction of a day, by a table of rows: the Rust's `get_tai_utc_offset` (scales/common.rs), each operation rounded once and in its order.
-- Assumes nothing.
use Rattle.std.specs.Prelude.{ℕ, zero, suc, ◌-◌, ◌/◌, Bool, cond, ◌&&◌, List, get_or, ℤ, pos, ◌==◌, slice_index_or, unsigned_abs, Float}
use Rattle.std.specs.Float.{binary64}
use Rattle.std.specs.Float.Ieee.{add, sub, mul, le, of_int}
use Rattle.refusals.specs.Outcome.{Outcome, answer, refusal, onward}
use Rattle.floats.specs.Whole.{nought, one}
use Rattle.constants.specs.Constants.{decimal}
use Rattle.calendar.specs.DayCount.{mjd_of}
use Rattle.leap_table.specs.rows.Table.{Row, fixed, none, month_number, starts, reached}

-- the floats nearest to a row's decimals
unfoldable pub seconds_of : Row → Float
seconds_of r = decimal r.units 7

unfoldable pub start_of : Row → Float
start_of r = decimal r.start 0

unfoldable pub rate_of : Row → Float
rate_of r = decimal r.rate 10

-- the offset of a row; a row whose rate is 0 does not drift
unfoldable pub by_row : Row → Float → Float → Float
by_row r mjd fraction =
    cond (r.rate == 0) (seconds_of r)
    (add binary64 (seconds_of r) (mul binary64 (sub binary64 (add binary64 mjd fraction) (start_of r)) (rate_of r)))

-- by the number of rows reached: 0.0 before the first
unfoldable pub offset_by : List Row → ℕ → Float → Float → Float
offset_by rows zero mjd fraction = nought
offset_by rows (suc i) mjd fraction = by_row (slice_index_or rows i none) mjd fraction

-- in month n
unfoldable pub offset_at : List Row → ℕ → Float → Float → Float
offset_at rows n mjd fraction = offset_by rows (reached (starts rows) n) mjd fraction

-- 0 ≤ fraction ≤ 1, which no NaN meets and -0.0 does
unfoldable pub in_day : Float → Bool
in_day fraction = le nought fraction && le fraction one

-- 7: fraction outside 0 to 1; then the refusals of the date, 1 to 3
unfoldable pub tai_utc_offset : List Row → ℤ → ℤ → ℤ → Float → Outcome Float
tai_utc_offset rows y m d fraction =
    cond (in_day fraction)
    (onward (mjd_of y m d) (λ n. answer (offset_at rows (month_number y (unsigned_abs m)) (of_int binary64 n) fraction)))
    (refusal 7)

-- the row that is reached where k months of the fixed table have begun
abbrev pub row_at : ℕ → Row
row_at k = slice_index_or fixed (k - 1) none

-- the whole seconds of the row reached in month n
abbrev pub seconds_in : List Row → ℕ → ℕ
seconds_in rows n = (get_or rows (reached (starts rows) n - 1) none).units / 10000000

-- k seconds as a float
abbrev pub whole_f : ℕ → Float
whole_f k = of_int binary64 (pos k)
