-- The rows that a walk forward through the table compares. Written from document 02, item 2: "A row counts each time a date's month is held against the start
-- of the next row not yet reached." Assumes nothing.
use Rattle.std.specs.Prelude.{ℕ, suc, ◌+◌, Bool, true, cond, ◌&&◌, List, [], ◌∷◌, length, nat_le}
use Rattle.leap_table.specs.rows.Table.{reached}

-- Of the starts of the rows not yet reached: how many a month is held against. Each that has begun is reached and the next is looked at; the first that has not
-- begun counts too, and ends it.
unfoldable pub held_against : List ℕ → ℕ → ℕ
held_against [] n = 0
held_against (a ∷ rest) n = cond (nat_le a n) (suc (held_against rest n)) 1

-- and the starts that are then still not reached
unfoldable pub left : List ℕ → ℕ → List ℕ
left [] n = []
left (a ∷ rest) n = cond (nat_le a n) (left rest n) (a ∷ rest)

-- over the months of all dates, each going on where the one before it stopped
unfoldable pub compared : List ℕ → List ℕ → ℕ
compared starts [] = 0
compared starts (n ∷ months) = held_against starts n + compared (left starts n) months

-- ---- the words of `compared-closed`: months in time order, none before n
unfoldable pub in_time : ℕ → List ℕ → Bool
in_time n [] = true
in_time n (m ∷ months) = nat_le n m && in_time m months

-- the rows reached in the last month; k where there is no month
unfoldable pub last_reached : List ℕ → ℕ → List ℕ → ℕ
last_reached starts k [] = k
last_reached starts k (m ∷ months) = last_reached starts (reached starts m) months

-- how many months leave a row that is not reached
unfoldable pub with_row_left : List ℕ → List ℕ → ℕ
with_row_left starts [] = 0
with_row_left starts (m ∷ months) = cond (nat_le (length starts) (reached starts m)) 0 1 + with_row_left starts months
