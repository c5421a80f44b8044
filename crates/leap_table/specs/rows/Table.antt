-- TAI-UTC as a table of decimals, and the last row whose month has begun. Written from the IERS table of TAI-UTC from 1961 on (Bulletin C from 1972); the row
-- of 1960 is SOFA's (dat.c). Assumes nothing.
use Rattle.std.specs.Prelude.{ℕ, zero, suc, ◌+◌, ◌-◌, ◌*◌, ◌<◌, ◌≤◌, Bool, true, false, ◌&&◌, List, [], ◌∷◌, map, length, ℤ, pos, negsuc, nat_le, nat_lt}
use Rattle.std.specs.Prelude.{slice_index, slice_index_or}

-- From the start of month `month` on, TAI-UTC is `units` times 10^-7 s; and where `rate` is not 0, more by `rate` times 10^-10 s for each day since the
-- Modified Julian Date `start`. Months are numbered from January of year 0.
pub record Row : Type 0 where
  pub month : ℕ
  pub units : ℕ
  pub start : ℕ
  pub rate : ℕ

abbrev pub month_of : ℕ → ℕ → ℕ
month_of y m = 12 * y + m - 1

abbrev pub row : ℕ → ℕ → ℕ → ℕ → ℕ → Row
row y m u s r = record { month = month_of y m; units = u; start = s; rate = r }

-- The table's numbers, which are held against its rows: how many rows it has, and the month and the whole seconds of its last; and how many rows and seconds
-- it has at most with sixteen announced ones.
abbrev pub fixed_rows : ℕ
fixed_rows = 42

abbrev pub last_month : ℕ
last_month = 24204

abbrev pub last_seconds : ℕ
last_seconds = 37

abbrev pub most_rows : ℕ
most_rows = fixed_rows + 16

abbrev pub most_seconds : ℕ
most_seconds = last_seconds + 16

-- the table: year, month, units, start, rate
unfoldable pub fixed : List Row
fixed =
    (row 1960 1 14178180 37300 12960000) ∷
    (row 1961 1 14228180 37300 12960000) ∷
    (row 1961 8 13728180 37300 12960000) ∷
    (row 1962 1 18458580 37665 11232000) ∷
    (row 1963 11 19458580 37665 11232000) ∷
    (row 1964 1 32401300 38761 12960000) ∷
    (row 1964 4 33401300 38761 12960000) ∷
    (row 1964 9 34401300 38761 12960000) ∷
    (row 1965 1 35401300 38761 12960000) ∷
    (row 1965 3 36401300 38761 12960000) ∷
    (row 1965 7 37401300 38761 12960000) ∷
    (row 1965 9 38401300 38761 12960000) ∷
    (row 1966 1 43131700 39126 25920000) ∷
    (row 1968 2 42131700 39126 25920000) ∷
    (row 1972 1 100000000 0 0) ∷
    (row 1972 7 110000000 0 0) ∷
    (row 1973 1 120000000 0 0) ∷
    (row 1974 1 130000000 0 0) ∷
    (row 1975 1 140000000 0 0) ∷
    (row 1976 1 150000000 0 0) ∷
    (row 1977 1 160000000 0 0) ∷
    (row 1978 1 170000000 0 0) ∷
    (row 1979 1 180000000 0 0) ∷
    (row 1980 1 190000000 0 0) ∷
    (row 1981 7 200000000 0 0) ∷
    (row 1982 7 210000000 0 0) ∷
    (row 1983 7 220000000 0 0) ∷
    (row 1985 7 230000000 0 0) ∷
    (row 1988 1 240000000 0 0) ∷
    (row 1990 1 250000000 0 0) ∷
    (row 1991 1 260000000 0 0) ∷
    (row 1992 7 270000000 0 0) ∷
    (row 1993 7 280000000 0 0) ∷
    (row 1994 7 290000000 0 0) ∷
    (row 1996 1 300000000 0 0) ∷
    (row 1997 7 310000000 0 0) ∷
    (row 1999 1 320000000 0 0) ∷
    (row 2006 1 330000000 0 0) ∷
    (row 2009 1 340000000 0 0) ∷
    (row 2012 7 350000000 0 0) ∷
    (row 2015 7 360000000 0 0) ∷
    (row 2017 1 370000000 0 0) ∷
    []

-- no row: what a look-up past the end of the table would read
abbrev pub none : Row
none = record { month = 0; units = 0; start = 0; rate = 0 }

-- the number of a date's month; 0 in the years before year 0, when no row has begun
unfoldable pub month_number : ℤ → ℕ → ℕ
month_number (pos y) m = month_of y m
month_number (negsuc y) m = 0

-- the months in which the rows begin
abbrev pub starts : List Row → List ℕ
starts rows = map (λ (r : Row). r.month) rows

-- How many rows stand up to the last whose month has begun; 0 where none has begun. `reached` works from the end: what the later rows say, with one row on top
-- of them. No order of the rows is assumed.
abbrev pub on_top : ℕ → Bool → ℕ
on_top (suc k) b = suc (suc k)
on_top zero true = 1
on_top zero false = 0

unfoldable pub reached : List ℕ → ℕ → ℕ
reached [] n = 0
reached (a ∷ rest) n = on_top (reached rest n) (nat_le a n)

-- each element stands to the one after it as `to` asks
abbrev pub in_turn : {A : Type 0} → (A → A → Bool) → List A → Bool
in_turn to [] = true
in_turn to (a ∷ []) = true
in_turn to (a ∷ (b ∷ l)) = to a b && in_turn to (b ∷ l)

-- each month is later than the one before
abbrev pub rising : List ℕ → Bool
rising l = in_turn nat_lt l

-- i is the place of the last month of the list that has begun in month n
pub record LastBegun (l : List ℕ) (n i : ℕ) : Type 0 where
  pub in_list : i < length l
  pub has_begun : slice_index_or l i 0 ≤ n
  pub later_not : (j : ℕ) → i < j → j < length l → n < slice_index l j
