-- ANNOUNCED TABLES, by computation: each refusal at its edge, in its order, and tables at both ends of what is taken, with sixteen rows, sixteen seconds up and
-- down. The rows follow the last fixed one, whichever it is.
-- Assumes nothing.
use Rattle.std.proofs.Common.{◌≡◌, ℕ, zero, suc, ◌+◌, ◌-◌, ◌*◌, List, [], ◌∷◌, ◌++◌, length, ℤ, pos, negsuc, refl}
use Rattle.refusals.specs.Outcome.{answer, refusal}
use Rattle.leap_table.specs.declared.rows.AnnouncedRows.{AnnouncedRows}
use Rattle.leap_table.specs.rows.Table.{Row, fixed, reached, most_rows, last_month, last_seconds, most_seconds}
use Rattle.leap_table.specs.rows.Announced.{rows_to, announced_size, table_of}
use Rattle.leap_table.specs.offsets.Offset.{seconds_in}

abbrev announced : (months seconds : ℕ) → List ℤ → List ℤ → AnnouncedRows
announced a b m s = record { months_size = a; seconds_size = b; months = m; seconds = s }

abbrev one-row : ℤ → ℤ → AnnouncedRows
one-row m s = announced 1 1 (m ∷ []) (s ∷ [])

-- a month some years after the last fixed row's, and a second more than its seconds
abbrev later : ℕ
later = last_month + 156

abbrev up : ℕ
up = suc last_seconds

abbrev rows-up : ℕ → ℕ → ℕ → List Row
rows-up zero m s = []
rows-up (suc n) m s = (record { month = m; units = 10000000 * s; start = 0; rate = 0 }) ∷ rows-up n (suc m) (suc s)

-- ---- 20: sizes unequal, or above 16
pub unequal_sizes : table_of (announced 1 2 ((pos later) ∷ (pos (later + 6)) ∷ []) ((pos up) ∷ (pos (suc up)) ∷ [])) ≡ refusal 20
unfolding table_of
unequal_sizes = refl

pub seventeen_rows : table_of (announced 17 17 [] []) ≡ refusal 20
unfolding table_of
seventeen_rows = refl

-- ---- 21: the last fixed row's month has its row; the month after it is the first that may have another
pub last-month-again : table_of (one-row (pos last_month) (pos up)) ≡ refusal 21
unfolding table_of rows_to announced_size fixed
last-month-again = refl

pub month-after : table_of (one-row (pos (suc last_month)) (pos up)) ≡ answer (fixed ++ rows-up 1 (suc last_month) up)
unfolding table_of rows_to announced_size fixed
month-after = refl

-- a month that would be late if it were read without its sign
pub negative-month : table_of (one-row (negsuc 0) (pos up)) ≡ refusal 21
unfolding table_of rows_to announced_size fixed
negative-month = refl

pub same-month-twice : table_of (announced 2 2 ((pos later) ∷ (pos later) ∷ []) ((pos up) ∷ (pos (suc up)) ∷ [])) ≡ refusal 21
unfolding table_of rows_to announced_size fixed
same-month-twice = refl

-- ---- 22: no step, and steps of two seconds up and down
pub no_second : table_of (one-row (pos later) (pos last_seconds)) ≡ refusal 22
unfolding table_of rows_to announced_size fixed
no_second = refl

pub two-seconds : table_of (one-row (pos later) (pos (suc up))) ≡ refusal 22
unfolding table_of rows_to announced_size fixed
two-seconds = refl

pub two-seconds-less : table_of (one-row (pos later) (pos (last_seconds - 2))) ≡ refusal 22
unfolding table_of rows_to announced_size fixed
two-seconds-less = refl

-- 21 of the second row comes before 22 of the first
pub order-first : table_of (announced 2 2 ((pos later) ∷ (pos later) ∷ []) ((pos (suc up)) ∷ (pos (up + 2)) ∷ [])) ≡ refusal 21
unfolding table_of rows_to announced_size fixed
order-first = refl

-- ---- sixteen rows, one month after the other, each a second more, or a second less
abbrev months_from : ℕ → ℕ → List ℤ
months_from zero m = []
months_from (suc n) m = (pos m) ∷ months_from n (suc m)

abbrev seconds-up : ℕ → ℕ → List ℤ
seconds-up zero s = []
seconds-up (suc n) s = (pos s) ∷ seconds-up n (suc s)

abbrev seconds-down : ℕ → ℕ → List ℤ
seconds-down zero s = []
seconds-down (suc n) s = (pos s) ∷ seconds-down n (s - 1)

abbrev rows-down : ℕ → ℕ → ℕ → List Row
rows-down zero m s = []
rows-down (suc n) m s = (record { month = m; units = 10000000 * s; start = 0; rate = 0 }) ∷ rows-down n (suc m) (s - 1)

pub sixteen-up : table_of (announced 16 16 (months_from 16 later) (seconds-up 16 up)) ≡ answer (fixed ++ rows-up 16 later up)
unfolding table_of rows_to announced_size fixed
sixteen-up = refl

pub sixteen-down : table_of (announced 16 16 (months_from 16 later) (seconds-down 16 (last_seconds - 1))) ≡ answer
    (fixed ++ rows-down 16 later (last_seconds - 1))
unfolding table_of rows_to announced_size fixed
sixteen-down = refl

pub most-rows : length (fixed ++ rows-up 16 later up) ≡ most_rows
unfolding fixed
most-rows = refl

pub most-seconds : seconds_in (fixed ++ rows-up 16 later up) (later + 15) ≡ most_seconds
unfolding fixed reached
most-seconds = refl

pub least-seconds : seconds_in (fixed ++ rows-down 16 later (last_seconds - 1)) (later + 15) ≡ last_seconds - 16
unfolding fixed reached
least-seconds = refl
