-- What a line says: nothing, a row, an expiry, or that it is outside the grammar. Written from the customer's words on `table=FILE` and from the head of the
-- IERS file leap-seconds.list: a row is `2027-01 38` or the NTP seconds of the midnight that begins a month and TAI-UTC; `#@` and NTP seconds are the expiry,
-- and what follows another # is a comment. NTP seconds have 1 to 12 digits, TAI-UTC 1 to 9. Assumes nothing.
use Rattle.std.specs.Prelude.{ℕ, zero, suc, ◌+◌, ◌-◌, ◌*◌, ◌/◌, ◌%◌, List, true, cond, ◌&&◌, length, drop, get_or, leb, ltb, eqb, Option, None, Some}
use Rattle.numerals.specs.digits.Decimal.{number}
use Rattle.leap_lists.specs.declared.lines.Line.{Line}
use Rattle.leap_lists.specs.declared.lines.Line.TheVariants as K
use Rattle.leap_lists.specs.lines.Scan.{behind_blanks, first_digits, ended, last_number}
use Rattle.leap_lists.specs.lines.Months.{month_from}

-- the row of month m with the number that ends the line
abbrev pub row_by : ℕ → Option ℕ → Line
row_by m (Some n) = K.Row m n
row_by m None = K.Outside

unfoldable pub row_with : ℕ → List ℕ → Line
row_with m s = row_by m (last_number 9 s)

-- YYYY-MM: the year of 4 digits before the hyphen, and the month of 2 digits at the start of s
unfoldable pub month_row : ℕ → ℕ → List ℕ → Line
month_row year places s =
    let d = first_digits 2 s in
    cond (eqb places 4 && (eqb (length d) 2 && (leb 1 (number d) && leb (number d) 12)))
    (row_with (12 * year + number d - 1) (drop (length d) s))
    K.Outside

-- the row of a month that was found, whose number is not 0
abbrev pub row_from : ℕ → List ℕ → Line
row_from zero s = K.Outside
row_from (suc m) s = row_with (suc m) s

-- NTP seconds, of one digit or more, in front of s
unfoldable pub ntp_row : ℕ → ℕ → List ℕ → Line
ntp_row ntp places s = cond (ltb 0 places && eqb (ntp % 86400) 0) (row_from (month_from (ntp / 86400)) s) K.Outside

-- a hyphen, 45, behind the first digits tells the two kinds of a row apart
unfoldable pub row_behind : List ℕ → List ℕ → Line
row_behind d s = cond (eqb (get_or s 0 0) 45) (month_row (number d) (length d) (drop 1 s)) (ntp_row (number d) (length d) s)

unfoldable pub row_of : List ℕ → Line
row_of s = let d = first_digits 12 s in row_behind d (drop (length d) s)

-- the day of NTP seconds as a Modified Julian Date: 1900-01-01 is 15020
abbrev pub expiry_by : Option ℕ → Line
expiry_by (Some n) = K.Expiry (n / 86400 + 15020)
expiry_by None = K.Outside

unfoldable pub expiry_of : List ℕ → Line
expiry_of s = expiry_by (last_number 12 s)

-- a line behind the blanks in front: empty or a comment, of which #@ (35, 64) is an expiry; else a row
unfoldable pub line_from : List ℕ → Line
line_from s = cond (ended s) (cond (eqb (get_or s 1 0) 64) (expiry_of (drop 2 s)) K.Blank) (row_of s)

unfoldable pub line_says : List ℕ → Line
line_says s = line_from (behind_blanks true s)
