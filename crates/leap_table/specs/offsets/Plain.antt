-- A date whose offsets need neither its Modified Julian Date nor its next date: the next date is in the same month, and the month is January 1972 or later,
-- where no row drifts. Written for the code's own short way; no contract of a public function cites it. Assumes nothing.
use Rattle.std.specs.Prelude.{◌≡◌, ℕ, zero, suc, ◌+◌, ◌≤◌, ℤ, unsigned_abs}
use Rattle.refusals.specs.Outcome.{answer}
use Rattle.calendar.specs.Calendar.{date}
use Rattle.calendar.specs.Refusals.{next_of}
use Rattle.leap_table.specs.rows.Table.{fixed, fixed_rows, month_number, reached, starts}

pub record Plain (y m d : ℤ) : Type 0 where
  pub same_month : next_of y m d ≡ answer (date y (unsigned_abs m) (unsigned_abs d + 1))
  pub from_1972 : 23664 ≤ month_number y (unsigned_abs m)

-- the rows reached in month n by how many announced ones are: in the fixed table where none is
abbrev pub by_found : ℕ → ℕ → ℕ
by_found n zero = reached (starts fixed) n
by_found n (suc k) = fixed_rows + suc k
