-- The table with the announced rows that a caller lends after the fixed ones. Written from document 02, item 8: two sizes, month starts (12 × year + month - 1)
-- and whole seconds, unread past the size. 20 for sizes unequal or above 16, then 21 for a row not later than the one before, then 22 for a step other than one
-- second up or down, each over all rows before the next; the first announced row stands after the last fixed one. Assumes nothing.
use Rattle.std.specs.Prelude.{◌≡◌, ℕ, zero, suc, ◌+◌, ◌*◌, ◌/◌, ◌<◌, ◌≤◌, Bool, true, false, cond, ◌&&◌, ◌||◌, ◌⊎◌, List, [], ◌∷◌, ◌++◌, drop, ℤ, pos, negsuc}
use Rattle.std.specs.Prelude.{◌==◌, int_lt, nat_le, slice_index_or}
use Rattle.std.proofs.Math.IntN.{suc_ℤ}
use Rattle.refusals.specs.Outcome.{Outcome, answer, refusal}
use Rattle.leap_table.specs.declared.rows.AnnouncedRows.{AnnouncedRows}
use Rattle.leap_table.specs.rows.Table.{Row, fixed, starts, in_turn, rising, last_month, last_seconds}

-- a number counted from 0; a negative one, which no accepted table has, counts as 0
abbrev pub natural : ℤ → ℕ
natural (pos n) = n
natural (negsuc n) = 0

-- the announced row of place i
abbrev pub seconds_at : AnnouncedRows → ℕ → ℕ
seconds_at t i = natural (slice_index_or t.seconds i (pos 0))

abbrev pub announced_row : AnnouncedRows → ℕ → Row
announced_row t i = record { month = natural (slice_index_or t.months i (pos 0)); units = 10000000 * seconds_at t i; start = 0; rate = 0 }

-- the fixed rows, and after them the first n announced ones
unfoldable pub rows_to : AnnouncedRows → ℕ → List Row
rows_to t zero = fixed
rows_to t (suc n) = rows_to t n ++ (announced_row t n ∷ [])

-- how many announced rows count: as many as the smaller size says, and at most 16
abbrev pub least : ℕ → ℕ → ℕ
least a b = cond (nat_le a b) a b

unfoldable pub announced_size : AnnouncedRows → ℕ
announced_size t = least (least t.months_size t.seconds_size) 16

-- all rows of a table, of a refused one too
abbrev pub rows_of : AnnouncedRows → List Row
rows_of t = rows_to t (announced_size t)

-- a table by its parts
abbrev pub announced_table : ℕ → ℕ → List ℤ → List ℤ → AnnouncedRows
announced_table a b months seconds = record { months_size = a; seconds_size = b; months = months; seconds = seconds }

-- the fixed rows, and after them as many announced ones as one size says, at most 16
abbrev pub rows_in : ℕ → List ℤ → List ℤ → List Row
rows_in size months seconds = rows_of (announced_table size size months seconds)

-- ---- the three tests
abbrev pub sizes_fit : AnnouncedRows → Bool
sizes_fit t = t.months_size == t.seconds_size && nat_le t.months_size 16

abbrev pub one_apart : ℕ → ℕ → Bool
one_apart a b = b == a + 1 || a == b + 1

abbrev pub one_second : Row → Row → Bool
one_second r s = one_apart (r.units / 10000000) (s.units / 10000000)

-- the rows of places 0 to 13 drift; those after them are whole seconds
abbrev pub by_seconds : List Row → Bool
by_seconds rows = in_turn one_second (drop 14 rows)

unfoldable pub table_of : AnnouncedRows → Outcome (List Row)
table_of t =
    cond (sizes_fit t)
    (cond (rising (starts (rows_of t)))
    (cond (by_seconds (rows_of t)) (answer (rows_of t)) (refusal 22))
    (refusal 21))
    (refusal 20)

-- ---- the tests on the numbers as they are announced, for the laws: what stands before place i, z before the first
abbrev pub before : ℤ → List ℤ → ℕ → ℤ
before z l zero = z
before z l (suc i) = slice_index_or l i (pos 0)

-- the month start of place i is later than the one before, that of the first later than the last fixed row's
abbrev pub later_at : AnnouncedRows → ℕ → Bool
later_at t i = int_lt (before (pos last_month) t.months i) (slice_index_or t.months i (pos 0))

-- the seconds of place i are one more or one less than those before, those of the first than the last fixed row's
abbrev pub OneStep : ℤ → ℤ → Type 0
OneStep a b = (b ≡ suc_ℤ a) ⊎ (a ≡ suc_ℤ b)

abbrev pub StepAt : AnnouncedRows → ℕ → Type 0
StepAt t i = OneStep (before (pos last_seconds) t.seconds i) (slice_index_or t.seconds i (pos 0))

-- what becomes of a table, and why
pub data Decision (t : AnnouncedRows) : Type 0 where
  sizes : (t.months_size ≡ t.seconds_size → 16 < t.months_size) → table_of t ≡ refusal 20 → Decision t
  order : t.months_size ≡ t.seconds_size → t.months_size ≤ 16 → (i : ℕ) → i < t.months_size → later_at t i ≡ false → table_of t ≡ refusal 21
      → Decision t
  step : t.months_size ≡ t.seconds_size → t.months_size ≤ 16 → ((i : ℕ) → i < t.months_size → later_at t i ≡ true) → (i : ℕ) → i < t.months_size
      → (StepAt t i → ⊥) → table_of t ≡ refusal 22 → Decision t
  taken : t.months_size ≡ t.seconds_size → t.months_size ≤ 16 → ((i : ℕ) → i < t.months_size → later_at t i ≡ true)
      → ((i : ℕ) → i < t.months_size → StepAt t i) → table_of t ≡ answer (rows_of t) → Decision t

-- 0 for what is not refused
abbrev pub unless_refused : {A : Type 0} → ℕ → A → Outcome A
unless_refused zero a = answer a
unless_refused (suc k) a = refusal (suc k)

-- the number r says what becomes of the table t: 0 that it is taken
abbrev pub Judged : ℕ → AnnouncedRows → Type 0
Judged r t = unless_refused r (rows_of t) ≡ table_of t

-- for the laws alone: t and u have the same sizes and the same rows, whatever stands past them
pub record SameRows (t u : AnnouncedRows) : Type 0 where
  pub months-size : t.months_size ≡ u.months_size
  pub seconds-size : t.seconds_size ≡ u.seconds_size
  pub rows : (i : ℕ) → i < announced_size t
      → (slice_index_or t.months i (pos 0) ≡ slice_index_or u.months i (pos 0)) × (slice_index_or t.seconds i (pos 0) ≡ slice_index_or u.seconds i (pos 0))

-- what stands past the sizes is not read
abbrev pub SpareUnread : AnnouncedRows → Type 0
SpareUnread t = (u : AnnouncedRows) → SameRows t u → table_of t ≡ table_of u
