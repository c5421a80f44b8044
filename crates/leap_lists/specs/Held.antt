-- What is held of a text's rows, and the number by which its next line is refused. Written from the customer's words on `table=FILE`: "rows that the library
-- has must be equal, else the file is refused and the row named; later ones are lent"; 15 outside the grammar, 20 more than 16 later rows, 21 and 22 as for a
-- table, 22 too for a row unlike the library's. Assumes nothing.
use Rattle.std.specs.Prelude.{ℕ, zero, suc, ◌+◌, ◌/◌, ◌%◌, ◌<◌, Bool, false, cond, not, ◌&&◌, leb, ltb, eqb, pos, set, replicate}
use Rattle.leap_table.specs.rows.Table.{fixed, last_month, last_seconds}
use Rattle.leap_table.specs.rows.Announced.{one_apart}
use Rattle.leap_table.specs.offsets.WholeSeconds.{whole_seconds}
use Rattle.leap_lists.specs.declared.held.Held.{Held}
use Rattle.leap_lists.specs.declared.lines.Line.{Line}
use Rattle.leap_lists.specs.declared.lines.Line.TheVariants as K

-- the numbers of a row fit an announced one's
abbrev pub InRange : Line → Type 0
InRange K.Blank = Unit
InRange (K.Row m s) = (m < 2147483648) × (s < 2147483648)
InRange (K.Expiry d) = Unit
InRange K.Outside = Unit

-- TAI-UTC in month m by the library's own rows; 0 before 1972
unfoldable pub seconds_from : ℕ → ℕ
seconds_from m = whole_seconds fixed (pos (m / 12)) (m % 12 + 1)

-- the library has a row that begins in month m with s: TAI-UTC is s in that month, and is not s in the month before
unfoldable pub library_row : ℕ → ℕ → Bool
library_row zero s = false
library_row (suc m) s = eqb (seconds_from (suc m)) s && not (eqb (seconds_from m) s)

unfoldable pub none_held : Held
none_held =
    record { size = 0; months = replicate 16 (pos 0); seconds = replicate 16 (pos 0); month = last_month; second = last_seconds; known = 0 }

-- a row later than the library's: its number, its place behind the one before it, its step; 0 where it is taken
unfoldable pub later_fault : Held → ℕ → ℕ → ℕ
later_fault h m s = cond (leb 16 h.size) 20 (cond (leb m h.month) 21 (cond (one_apart h.second s) 0 22))

unfoldable pub line_fault : Held → Line → ℕ
line_fault h K.Blank = 0
line_fault h (K.Row m s) = cond (ltb last_month m) (later_fault h m s) (cond (library_row m s) 0 22)
line_fault h (K.Expiry d) = 0
line_fault h K.Outside = 15

abbrev pub with_row : Held → ℕ → ℕ → Held
with_row h m s = record {
  size = h.size + 1;
  months = set h.months h.size (pos m);
  seconds = set h.seconds h.size (pos s);
  month = m;
  second = s;
  known = h.known;
}

abbrev pub with_expiry : Held → ℕ → Held
with_expiry h d = record { size = h.size; months = h.months; seconds = h.seconds; month = h.month; second = h.second; known = d }

-- what is held with a line that is not refused: of several expiries the last
unfoldable pub with_line : Held → Line → Held
with_line h K.Blank = h
with_line h (K.Row m s) = cond (ltb last_month m) (with_row h m s) h
with_line h (K.Expiry d) = with_expiry h d
with_line h K.Outside = h
