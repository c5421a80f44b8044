-- What the functions below the calls ask and keep: where a walk stands, what one step of it does, and dates that nothing is refused of. Assumes nothing.
use Rattle.std.specs.Prelude.{◌≡◌, ℕ, suc, ◌+◌, ◌<◌, ◌≤◌, cond, List, length, nat_le, slice_index, slice_index_or, Float}
use Rattle.refusals.specs.Outcome.{answer}
use Rattle.leap_table.specs.rows.Table.{Row, starts, most_rows}
use Rattle.leap_table.specs.offsets.Offset.{offset_by}
use Rattle.leap_table.specs.offsets.Forward.{never, by_terms}
use Rattle.leap_table.specs.declared.judging.Triple.{Triple}
use Rattle.leap_table.specs.declared.walk.Walk.{Walk}
use Rattle.leap_table.specs.judging.Judging.{valid_triple}
use Rattle.leap_table.specs.walk.Walk.{month_in}

-- what a walk holds is of the rows that it has reached
pub record Standing (rows : List Row) (w : Walk) : Type 0 where
  pub all : w.rows ≡ length rows
  pub most : w.reached ≤ length rows
  pub next : w.next ≡ slice_index_or (starts rows) w.reached never
  pub terms : (mjd f : Float) → by_terms w.terms mjd f ≡ offset_by rows w.reached mjd f
  pub small : length rows ≤ most_rows

pub record AtStart (rows : List Row) (w : Walk) : Type 0 where
  pub stands : Standing rows w
  pub none : w.reached ≡ 0
  pub nothing : w.compared ≡ 0

-- from w to r in a month: the rows between them have begun and are counted, the next has not
pub record Stepped (rows : List Row) (w : Walk) (month : ℕ) (r : Walk) : Type 0 where
  pub stands : Standing rows r
  pub forward : w.reached ≤ r.reached
  pub begun : (j : ℕ) → w.reached ≤ j → j < r.reached → slice_index (starts rows) j ≤ month
  pub later : month < r.next
  pub count : r.compared + w.reached ≡ w.compared + r.reached

-- one more where a row is left
abbrev pub CountsNext : Walk → ℕ → Type 0
CountsNext w r = r ≡ w.compared + cond (nat_le w.rows w.reached) 0 1

-- w with another count
abbrev pub counting : Walk → ℕ → Walk
counting w c = record { rows = w.rows; reached = w.reached; next = w.next; terms = w.terms; compared = c }

-- from w to r by one date: past the rows that have begun in its month, after which `passed` rows are compared, and one more where a row is left
pub record Moved (rows : List Row) (w : Walk) (month : ℕ) (r : Walk) : Type 0 where
  pub passed : ℕ
  pub stepped : Stepped rows w month (counting r passed)
  pub counts : CountsNext (counting r passed) r.compared

-- dates that nothing is refused of: each is good, and their months do not fall
pub record GoodDates (f : ℕ → Triple) (n : ℕ) : Type 0 where
  pub good : (i : ℕ) → i < n → valid_triple (f i) ≡ answer tt
  pub rise : (i : ℕ) → suc i < n → month_in (f i) ≤ month_in (f (suc i))
