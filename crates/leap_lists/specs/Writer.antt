-- Rows and expiries as they are written, apart from the reader: lines as `2027-01 38`, lines of the IERS file, and a text of lines. Written from the customer's
-- words on `table=FILE`. Assumes nothing.
use Rattle.std.specs.Prelude.{ℕ, zero, suc, ◌+◌, ◌-◌, ◌*◌, ◌/◌, ◌%◌, ◌≤◌, ◌<◌, ◌≡◌, true, List, [], ◌∷◌, ◌++◌, map, ℤ, pos, set}
use Rattle.numerals.specs.digits.Decimal.{last, digits_of}
use Rattle.leap_table.specs.rows.Table.{last_month}
use Rattle.leap_lists.specs.declared.held.Held.{Held}
use Rattle.leap_lists.specs.declared.lines.Line.TheVariants as K
use Rattle.leap_lists.specs.lines.Lines.{line_says}
use Rattle.leap_lists.specs.Held.{library_row, later_fault, with_row}
use Rattle.leap_lists.specs.lines.Months.{first_month, days_from}

-- the last k digits of n, with zeros in front
unfoldable pub last_digits : ℕ → ℕ → List ℕ
last_digits zero n = []
last_digits (suc k) n = last_digits k (n / 10) ++ (last n ∷ [])

-- YYYY-MM and the seconds: 45 is '-', 32 a space
unfoldable pub month_line : ℕ → ℕ → List ℕ
month_line m s = last_digits 4 (m / 12) ++ (45 ∷ (last_digits 2 (m % 12 + 1) ++ (32 ∷ digits_of s)))

-- the NTP seconds of the midnight that begins month m, a tab and the seconds
unfoldable pub ntp_line : ℕ → ℕ → List ℕ
ntp_line m s = digits_of (86400 * days_from first_month (m - first_month)) ++ (9 ∷ digits_of s)

-- #@, a tab and the NTP seconds of a day by its Modified Julian Date
unfoldable pub expiry_line : ℕ → List ℕ
expiry_line day = 35 ∷ (64 ∷ (9 ∷ digits_of (86400 * (day - 15020))))

-- each line with a newline behind it
unfoldable pub lines_text : List (List ℕ) → List ℕ
lines_text [] = []
lines_text (l ∷ ls) = l ++ (10 ∷ lines_text ls)

-- ---- rows as they are lent, and what is held with them, for the laws
pub record LentRow : Type 0 where
  pub month : ℕ
  pub seconds : ℕ

unfoldable pub held_with : Held → List LentRow → Held
held_with h [] = h
held_with h (r ∷ rs) = held_with (with_row h r.month r.seconds) rs

-- each row is later than the library's, is not refused where it stands, and can be written_lines in both forms
unfoldable pub InTheirTurn : Held → List LentRow → Type 0
InTheirTurn h [] = Unit
InTheirTurn h (r ∷ rs) =
    (last_month < r.month) × (r.month < 120000) × (r.seconds < 1000000000) × (later_fault h r.month r.seconds ≡ 0)
    × InTheirTurn (with_row h r.month r.seconds) rs

-- a line of each row, by one of the two writers
abbrev pub written_lines : (ℕ → ℕ → List ℕ) → List LentRow → List (List ℕ)
written_lines write rs = map (λ (r : LentRow). write r.month r.seconds) rs

-- the line says a row that the library has
pub record OwnLine (l : List ℕ) : Type 0 where
  pub month : ℕ
  pub seconds : ℕ
  pub says : line_says l ≡ K.Row month seconds
  pub not_later : month ≤ last_month
  pub own : library_row month seconds ≡ true

unfoldable pub AllOwn : List (List ℕ) → Type 0
AllOwn [] = Unit
AllOwn (l ∷ ls) = OwnLine l × AllOwn ls

-- numbers put into a list from place n on
unfoldable pub put_from : List ℤ → ℕ → List ℕ → List ℤ
put_from l n [] = l
put_from l n (x ∷ xs) = put_from (set l n (pos x)) (n + 1) xs
