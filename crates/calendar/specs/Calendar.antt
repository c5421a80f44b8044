-- The proleptic Gregorian calendar: leap years, the months' lengths, the next date, and the date of each day number. Written from ISO 8601 and from document
-- 01, "Day and fraction". Assumes nothing.
use Rattle.std.specs.Prelude.{ℕ, zero, suc, ◌+◌, ◌%◌, Bool, cond, not, ◌&&◌, ◌||◌, false, [], ◌∷◌, ◌≡◌, eqb, ltb, get_or, ℤ, pos, negsuc, nat_abs, ◌+ℤ◌}
use Rattle.std.proofs.Math.IntN.{suc_ℤ}
use Rattle.std.specs.Int.Signed.{lt_z}
use Rattle.calendar.specs.declared.CalendarDate.{CalendarDate}

-- document 01: "February has 29 days exactly in years divisible by 400, or by 4 and not by 100". Divisibility has no sign, so the rule is of the year's size
unfoldable pub leap_size : ℕ → Bool
leap_size n = eqb (n % 400) 0 || (eqb (n % 4) 0 && not (eqb (n % 100) 0))

abbrev pub leap_year : ℤ → Bool
leap_year y = leap_size (nat_abs y)

-- the days of months 1 to 12, in a leap year or another; no other number is a month, and has 0 days
unfoldable pub lengths : Bool → ℕ → ℕ
lengths isLeap m = get_or (0 ∷ 31 ∷ cond isLeap 29 28 ∷ 31 ∷ 30 ∷ 31 ∷ 30 ∷ 31 ∷ 31 ∷ 30 ∷ 31 ∷ 30 ∷ 31 ∷ []) m 0

abbrev pub month_length : ℤ → ℕ → ℕ
month_length y m = lengths (leap_year y) m

-- the same of a month that may be below 0
unfoldable pub days_in_month : ℤ → ℤ → ℕ
days_in_month y (pos m) = month_length y m
days_in_month y (negsuc m) = 0

abbrev pub date : ℤ → ℕ → ℕ → CalendarDate
date y m d = record { year = y; month = m; day = d }

-- the next date: the next day of the month, or the first of the next month, or 1 January of the next year
unfoldable pub next : CalendarDate → CalendarDate
next t =
    cond (ltb t.day (month_length t.year t.month)) (date t.year t.month (t.day + 1))
    (cond (ltb t.month 12) (date t.year (t.month + 1) 1) (date (suc_ℤ t.year) 1 1))

-- the date k days after -5200-03-01
unfoldable pub date_at : ℕ → CalendarDate
date_at zero = date (negsuc 5199) 3 1
date_at (suc k) = next (date_at k)

-- The date of day number n, which is document 01's n: "Day 2451545 is 2000-01-01, and each n one more or one less is the next or the previous date." The count
-- starts at -5200-03-01, day -178141, only because all that the code computes lies after it (below that day it has no meaning). Day 2451545 is day 2629686 of
-- that count, and it is proved that its date is 2000-01-01 (`day-2451545-is-2000-01-01`) and that no other sequence of dates has that date at that number and
-- this step (`the_calendar`).
unfoldable pub date_of : ℤ → CalendarDate
date_of n = date_at (nat_abs (n +ℤ pos 178141))

-- the day numbers that the definition counts: from -178141
abbrev pub Counted : ℤ → Type 0
Counted n = lt_z n (negsuc 178140) ≡ false
