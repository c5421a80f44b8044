-- What a walk that is answered gives, in plain words, and by which number any walk is refused: for the laws alone. Written from document 02, item 2. Assumes
-- nothing.
use Rattle.std.specs.Prelude.{◌≡◌, ℕ, ◌+◌, ◌/◌, ◌%◌, ◌<◌, ◌≤◌, T, List, map, length, get_or, drop, ℤ, slice_index_or, Float, Ok}
use Rattle.refusals.specs.Outcome.{answer, onward}
use Rattle.floats.specs.Whole.{nought}
use Rattle.leap_table.specs.declared.rows.AnnouncedRows.{AnnouncedRows}
use Rattle.leap_table.specs.declared.judging.Triple.{Triple}
use Rattle.leap_table.specs.rows.Table.{Row, fixed, fixed_rows, most_rows, starts}
use Rattle.leap_table.specs.rows.Announced.{table_of}
use Rattle.leap_table.specs.offsets.Offset.{tai_utc_offset}
use Rattle.leap_table.specs.judging.Lists.{dates_from, triple_at}
use Rattle.leap_table.specs.walk.Rows.{compared, in_time, last_reached, with_row_left}
use Rattle.leap_table.specs.walk.Walk.{month_in, triple_offset}
use Rattle.leap_table.specs.walk.Lists.{walk_of_numbers}
use Rattle.leap_table.specs.walk.Call.{WalkCall, as_floats}
use Rattle.leap_table.specs.walk.Due.{WalkDecision, triple_numbers}

-- c rows were compared over the dates ds, and the list that held `before` holds `after`
abbrev pub WalkedBy : AnnouncedRows → List Triple → List Float → ℕ → List Float → Type 0
WalkedBy t ds before c after = WalkCall as_floats (onward (table_of t) (λ l. walk_of_numbers l (triple_numbers ds) (length before))) before (Ok c) after

pub record WalkRight (t : AnnouncedRows) (rows : List Row) (ds : List Triple) (d : Triple) (before after : List Float) (c : ℕ) : Type 0 where
  -- each offset is that of the look-up of its date at 0h
  pub each : WalkedBy t ds before c after → (i : ℕ) → i < length ds
      → tai_utc_offset rows (get_or ds i d).year (get_or ds i d).month (get_or ds i d).day nought ≡ answer (slice_index_or after i (triple_offset rows d))
  -- what lies behind stays
  pub behind : WalkedBy t ds before c after → drop (length ds) after ≡ drop (length ds) before
  -- the count is the definition's: at most the dates and the fixed rows by the fixed table, and a row each time that a month is held against the next row's
  -- start
  pub counted : WalkedBy t ds before c after → c ≡ compared (starts rows) (map month_in ds)
  pub at_most : (months : List ℕ) → compared (starts fixed) months ≤ length months + fixed_rows
  pub each_time : (months : List ℕ) → T (in_time 0 months) → compared (starts rows) months
      ≡ last_reached (starts rows) 0 months + with_row_left (starts rows) months

-- any list of numbers
abbrev pub WalkDecided : List Row → Triple → Type 0
WalkDecided rows d = (l : List ℤ) (places : ℕ)
    → WalkDecision rows (length l % 3) (dates_from (triple_at l) 0 (length l / 3)) d 1 places (walk_of_numbers rows l places)

-- by a table with announced rows at most as many more than the dates as it can have rows, 58
abbrev pub WalkAtMost : List Row → Type 0
WalkAtMost rows = (months : List ℕ) → compared (starts rows) months ≤ length months + most_rows
