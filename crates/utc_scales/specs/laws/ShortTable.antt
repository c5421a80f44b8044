-- A table of announced rows that lowers TAI-UTC: 36 s from January 2030 on, and 37 s again from July 2035 on. The places past the size hold what no row could.
-- It comes down from the last fixed row's seconds by a second each month, so by one row where they are 37. Made up for the worked cases of document 02, item 8;
-- no such row is announced. Assumes nothing.
use Rattle.std.specs.Prelude.{ℕ, zero, suc, ◌+◌, ◌-◌, ◌*◌, List, [], ◌∷◌, ◌++◌, ℤ, pos, negsuc, replicate}
use Rattle.leap_table.specs.declared.rows.AnnouncedRows.{AnnouncedRows}
use Rattle.leap_table.specs.rows.Table.{Row, row, fixed, fixed_rows, last_seconds}

-- so many seconds less than the last fixed row's are 36
abbrev pub lowered : ℕ
lowered = last_seconds - 36

-- the rows that come down, the last of which is 36 s in January 2030
abbrev pub down_months : ℕ → List ℤ
down_months zero = []
down_months (suc i) = (pos (24360 - i)) ∷ down_months i

abbrev pub down_seconds : ℕ → List ℤ
down_seconds zero = []
down_seconds (suc i) = (pos (36 + i)) ∷ down_seconds i

abbrev pub down_rows : ℕ → List Row
down_rows zero = []
down_rows (suc i) = (record { month = 24360 - i; units = 10000000 * (36 + i); start = 0; rate = 0 }) ∷ down_rows i

unfoldable pub short_table : AnnouncedRows
short_table =
    record {
      months_size = suc lowered;
      seconds_size = suc lowered;
      months = down_months lowered ++ ((pos 24426) ∷ replicate (15 - lowered) (negsuc 0));
      seconds = down_seconds lowered ++ ((pos 37) ∷ replicate (15 - lowered) (negsuc 0));
    }

abbrev pub short_rows : List Row
short_rows = fixed ++ (down_rows lowered ++ ((row 2035 7 370000000 0 0) ∷ []))

-- the place of the row of January 2030
abbrev pub short_place : ℕ
short_place = fixed_rows + lowered - 1
