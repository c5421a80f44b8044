-- From 1972 on no row of a table drifts, whatever is announced: TAI-UTC is the seconds of the row reached, at every fraction of the day.
-- Assumes nothing.
use Rattle.std.proofs.Common.{◌≡◌, ℕ, ◌-◌, ◌≤◌, not, get_or, refl, ap, ◌∙◌, arith, le-ltb}
use lib.Ieee.{Float}
use Rattle.leap_table.specs.declared.rows.AnnouncedRows.{AnnouncedRows}
use Rattle.leap_table.specs.rows.Table.{starts, reached, none}
use Rattle.leap_table.specs.rows.Announced.{announced_size, rows_of}
use Rattle.leap_table.specs.offsets.Offset.{seconds_of, offset_at}
use Rattle.leap_table.proofs.rows.Tables.{table-drifts, no_fewer, most-of-table}
use Rattle.leap_table.proofs.offsets.At.{row_stays}
use Rattle.leap_table.proofs.offsets.Years.{whole-rows}

module _ (t : AnnouncedRows) (n : ℕ) (h : 23664 ≤ n) where
  abbrev k : ℕ
  k = reached (starts (rows_of t)) n

  pub whole-rows-of : 15 ≤ k
  whole-rows-of = omega (arith, whole-rows n h, no_fewer t (announced_size t) n)

  pub row-seconds-of : (mjd f : Float) → seconds_of (get_or (rows_of t) (k - 1) none) ≡ offset_at (rows_of t) n mjd f
  unfolding offset_at
  row-seconds-of mjd f =
      let a = whole-rows-of in
      let b = most-of-table t (announced_size t) n in
      row_stays (rows_of t) k mjd f (omega (arith, a))
      (table-drifts t (announced_size t) (k - 1) (omega (arith, a, b)) ∙ ap not (le-ltb (k - 1) 14 (omega (arith, a))))
      (seconds_of (get_or (rows_of t) (k - 1) none)) refl
