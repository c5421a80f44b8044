-- Dates written as numbers, and by which number each walk is refused, date by date, in plain words: for the laws alone. Written from document 02, item 2:
-- "Turned away: 14 for a broken triple, then 11 for fewer offset places than dates; then, date by date, a bad one by its own number, then 17 for one earlier
-- than the one before it". Assumes nothing.
use Rattle.std.specs.Prelude.{◌≡◌, ℕ, zero, suc, ◌*◌, ◌<◌, ◌≤◌, Bool, true, false, List, [], ◌∷◌, length, ℤ, ◌≢◌, slice_index_or}
use Rattle.refusals.specs.Outcome.{Outcome, answer, refusal}
use Rattle.leap_table.specs.rows.Table.{Row}
use Rattle.leap_table.specs.declared.judging.Triple.{Triple}
use Rattle.leap_table.specs.judging.Judging.{earlier, valid_triple}
use Rattle.leap_table.specs.walk.Walk.{Walked, walked}

-- the year, the month and the day of each date, in the order of the dates
unfoldable pub triple_numbers : List Triple → List ℤ
triple_numbers [] = []
triple_numbers (t ∷ ds) = t.year ∷ t.month ∷ t.day ∷ triple_numbers ds

-- whether date i is earlier than the one before it; the first has none before it
abbrev pub out_of_order : List Triple → Triple → ℕ → Bool
out_of_order ds d zero = false
out_of_order ds d (suc j) = earlier (slice_index_or ds (suc j) d) (slice_index_or ds j d)

-- date i is a date, and is not earlier than the one before it
pub record Stands (ds : List Triple) (d : Triple) (i : ℕ) : Type 0 where
  pub good : valid_triple (slice_index_or ds i d) ≡ answer tt
  pub order : out_of_order ds d i ≡ false

-- date i is refused by k: by its own number, or, a date, by 17
pub data RefusedAt (ds : List Triple) (d : Triple) (i k : ℕ) : Type 0 where
  by_its_own : valid_triple (slice_index_or ds i d) ≡ refusal k → RefusedAt ds d i k
  by_order : valid_triple (slice_index_or ds i d) ≡ answer tt → out_of_order ds d i ≡ true → k ≡ 17 → RefusedAt ds d i k

-- the first date that does not stand is refused by k
pub record FirstRefused (ds : List Triple) (d : Triple) (k : ℕ) : Type 0 where
  pub place : ℕ
  pub within : place < length ds
  pub before : (j : ℕ) → j < place → Stands ds d j
  pub refused : RefusedAt ds d place k

-- What becomes of a walk over the dates ds: `over` numbers or bytes are left of a broken triple, and an offset has `each` places of `room`. The cases shut each
-- other out, so that each number comes exactly there, and an answer exactly in the last.
pub data WalkDecision (rows : List Row) (over : ℕ) (ds : List Triple) (d : Triple) (each room : ℕ) (o : Outcome Walked) : Type 0 where
  broken_triple : (over ≢ 0) → o ≡ refusal 14 → WalkDecision rows over ds d each room o
  too_few_places : over ≡ 0 → room < each * length ds → o ≡ refusal 11 → WalkDecision rows over ds d each room o
  date_refused : over ≡ 0 → each * length ds ≤ room → (k : ℕ) → FirstRefused ds d k → o ≡ refusal k → WalkDecision rows over ds d each room o
  all_walked : over ≡ 0 → each * length ds ≤ room → ((i : ℕ) → i < length ds → Stands ds d i) → o ≡ answer (walked rows ds)
      → WalkDecision rows over ds d each room o
