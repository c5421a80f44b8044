-- The seconds of announced rows, and that from 1972 on TAI-UTC is those of the row reached. Assumes nothing.
use Rattle.std.proofs.Common.{◌≡◌, ℕ, ◌-◌, ◌*◌, ◌^◌, ◌≤◌, false, get_or, ap, ◌∙◌, arith}
use lib.Ieee.{Float, binary64, of_int}
use lib.Ieee.Scale.{round_same}
use Rattle.leap_table.specs.declared.rows.AnnouncedRows.{AnnouncedRows}
use Rattle.leap_table.specs.rows.Table.{none, starts, reached}
use Rattle.leap_table.specs.rows.Announced.{seconds_at, announced_row, rows_of}
use Rattle.leap_table.specs.offsets.Offset.{seconds_of, offset_at, whole_f}
use Rattle.leap_table.proofs.offsets.TableYears.{whole-rows-of, row-seconds-of}

-- the seconds of an announced row are their own float
pub announced_seconds : (t : AnnouncedRows) (k : ℕ) → seconds_of (announced_row t k) ≡ whole_f (seconds_at t k)
unfolding seconds_of of_int
announced_seconds t k = round_same binary64 false (10000000 * seconds_at t k) (10 ^ 7) (seconds_at t k) 1 (omega arith) (omega arith) (go (seconds_at t k))
  where
    go : (s : ℕ) → 10000000 * s * 1 ≡ s * 10 ^ 7
    go s = omega arith

-- ---- from 1972 on, where k rows are reached in month n
module _ (t : AnnouncedRows) (n k : ℕ) (h : 23664 ≤ n) (e : k ≡ reached (starts (rows_of t)) n) where
  pub whole-reached : 15 ≤ k
  whole-reached = omega (arith, e, whole-rows-of t n h)

  pub seconds-reached : (x : Float) → x ≡ seconds_of (get_or (rows_of t) (k - 1) none) → (mjd f : Float) → x ≡ offset_at (rows_of t) n mjd f
  seconds-reached x p mjd f =
      p
      ∙ ap (λ (j : ℕ). seconds_of (get_or (rows_of t) (j - 1) none)) e
      ∙ row-seconds-of t n h mjd f
