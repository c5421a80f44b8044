-- What is known of every table of announced rows that is taken, and of its leaps day by day. Written from document 02, item 8, and document 01, "TAI minus
-- UTC". Assumes nothing.
use Rattle.std.specs.Prelude.{◌≡◌, not, ◌⊎◌, List, ℕ, suc, ◌+◌, ◌-◌, ◌/◌, ◌≤◌, ◌<◌, T, eqb, ltb, ℤ, pos, nat_abs, length, get_or, Float}
use Rattle.refusals.specs.Outcome.{answer}
use Rattle.floats.specs.Whole.{nought, one}
use Rattle.calendar.specs.declared.CalendarDate.{CalendarDate}
use Rattle.calendar.specs.Refusals.{next_of}
use Rattle.leap_table.specs.declared.rows.AnnouncedRows.{AnnouncedRows}
use Rattle.leap_table.specs.rows.Table.{Row, fixed, starts, reached, month_number, none, fixed_rows, most_rows, last_month, most_seconds}
use Rattle.leap_table.specs.rows.Announced.{announced_row}
use Rattle.leap_table.specs.offsets.Offset.{offset_at, seconds_in, whole_f}
use Rattle.leap_table.specs.offsets.Leap.{leap_at_end_of_day}
use Rattle.time_of_day.specs.ExactTime.{leap1959, minus_one_f}
use Rattle.leap_days.specs.drift.Small.{small}

-- the row that gives the offset in month n
abbrev pub row_in : List Row → ℕ → Row
row_in rows n = get_or rows (reached (starts rows) n - 1) none

-- the whole seconds of a row
abbrev pub seconds_of_row : Row → ℕ
seconds_of_row r = r.units / 10000000

-- the leap of a day of month n whose next day is of month n', from 1972 on: 0.0 where one row gives both offsets, and else the step of the row that begins on
-- the next day
pub data StepLeap (rows : List Row) (n n' : ℕ) (x : Float) : Type 0 where
  no_row : row_in rows n' ≡ row_in rows n → x ≡ nought → StepLeap rows n n' x
  row_up : (row_in rows n').month ≡ n' → seconds_in rows n' ≡ seconds_in rows n + 1 → x ≡ one → StepLeap rows n n' x
  row_down : (row_in rows n').month ≡ n' → seconds_in rows n ≡ seconds_in rows n' + 1 → x ≡ minus_one_f → StepLeap rows n n' x

-- every leap by its date: January 1960 is month 23520, January 1972 month 23664
pub data LeapOn (rows : List Row) (y m d : ℤ) (x : Float) : Type 0 where
  before_1960 : month_number y (nat_abs m) < 23520 → x ≡ nought → LeapOn rows y m d x
  last_of_1959 : y ≡ pos 1959 → nat_abs m ≡ 12 → nat_abs d ≡ 31 → x ≡ leap1959 → LeapOn rows y m d x
  drifting : 23520 ≤ month_number y (nat_abs m) → month_number y (nat_abs m) < 23664 → T (small x) → leap_at_end_of_day fixed y m d ≡ answer x
      → LeapOn rows y m d x
  from_1972 : 23664 ≤ month_number y (nat_abs m) → (next : CalendarDate) → next_of y m d ≡ answer next
      → StepLeap rows (month_number y (nat_abs m)) (month_number next.year next.month) x → LeapOn rows y m d x

-- of the rows: the fixed ones and then the announced ones, at most sixteen, each month later than the one before and, from place 14 on, one second more or
-- less, those of places 0 to 13 drifting and no other;
-- of TAI-UTC: to the last fixed row's month that of the fixed table, from 1972 on 10 s to sixteen more than the last fixed row's, whole seconds at every
-- fraction of a day; and of the leaps
pub record EveryTable (t : AnnouncedRows) (rows : List Row) : Type 0 where
  pub count : length rows ≡ fixed_rows + t.months_size
  pub most : length rows ≤ most_rows
  pub fixed_first : (i : ℕ) → i < fixed_rows → get_or rows i none ≡ get_or fixed i none
  pub announced_after : (i : ℕ) → i < t.months_size → get_or rows (fixed_rows + i) none ≡ announced_row t i
  pub rises : (i : ℕ) → suc i < length rows → (get_or rows i none).month < (get_or rows (suc i) none).month
  pub by_one_second : (i : ℕ) → 14 ≤ i → suc i < length rows → (seconds_of_row (get_or rows (suc i) none) ≡ seconds_of_row (get_or rows i none) + 1)
      ⊎ (seconds_of_row (get_or rows i none) ≡ seconds_of_row (get_or rows (suc i) none) + 1)
  pub drifts : (i : ℕ) → i < length rows → eqb (get_or rows i none).rate 0 ≡ not (ltb i 14)
  pub same_to_last_row : (n : ℕ) → n < suc last_month → (mjd f : Float) → offset_at rows n mjd f ≡ offset_at fixed n mjd f
  pub whole : (n : ℕ) → 23664 ≤ n → (mjd f : Float) → offset_at rows n mjd f ≡ whole_f (seconds_in rows n)
  pub seconds : (n : ℕ) → 23664 ≤ n → (10 ≤ seconds_in rows n) × (seconds_in rows n ≤ most_seconds)
  pub leaps : (y m d : ℤ) (x : Float) → leap_at_end_of_day rows y m d ≡ answer x → LeapOn rows y m d x
