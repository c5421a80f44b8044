-- What a walk forward reads of a table: the starts of its rows, one after the other, and nothing past the last.
-- Assumes nothing.
use Rattle.std.proofs.Common.{◌≡◌, ℕ, zero, suc, ◌+◌, ◌-◌, ◌<◌, ◌≤◌, eqb, List, [], ◌∷◌, length, get_or, sym, refl, ap, ◌∙◌, le_of_suc-le-suc, not-suc-le-zero}
use Rattle.std.proofs.Common.{arith}
use lib.Ieee.{Float, round}
use Rattle.floats.specs.Whole.{nought}
use Rattle.leap_table.specs.declared.rows.AnnouncedRows.{AnnouncedRows}
use Rattle.leap_table.specs.rows.Table.{Row, fixed, starts, none, fixed_rows}
use Rattle.leap_table.specs.rows.Announced.{announced_row, announced_size, rows_of}
use Rattle.leap_table.specs.offsets.Offset.{seconds_of, offset_by}
use Rattle.leap_table.specs.offsets.Forward.{never}
use Rattle.leap_table.proofs.rows.Rows.{fixed-length}
use Rattle.leap_table.proofs.rows.Tables.{table-length, fixed-place, announced_place}
use Rattle.leap_table.proofs.offsets.At.{row_stays}

-- the start at a place is the month of the row there, and past the last row it is what is asked for instead
pub starts-at : (rows : List Row) (i d : ℕ) → i < length rows → get_or (starts rows) i d ≡ (get_or rows i none).month
starts-at [] i d h = absurd (not-suc-le-zero h)
starts-at (r ∷ rows) zero d h = refl
starts-at (r ∷ rows) (suc i) d h = starts-at rows i d (le_of_suc-le-suc h)

starts-past : (rows : List Row) (i d : ℕ) → length rows ≤ i → get_or (starts rows) i d ≡ d
starts-past [] i d h = refl
starts-past (r ∷ rows) zero d h = absurd (not-suc-le-zero h)
starts-past (r ∷ rows) (suc i) d h = starts-past rows i d (le_of_suc-le-suc h)

row-past : (rows : List Row) (i : ℕ) → length rows ≤ i → get_or rows i none ≡ none
row-past [] i h = refl
row-past (r ∷ rows) zero h = absurd (not-suc-le-zero h)
row-past (r ∷ rows) (suc i) h = row-past rows i (le_of_suc-le-suc h)

none-seconds : nought ≡ seconds_of none
unfolding seconds_of round
none-seconds = refl

module _ (t : AnnouncedRows) where
  len : length (rows_of t) ≡ fixed_rows + announced_size t
  len = table-length t (announced_size t)

  pub start-fixed : (i : ℕ) → i < fixed_rows → get_or (starts fixed) i 0 ≡ get_or (starts (rows_of t)) i never
  start-fixed i h =
      starts-at fixed i 0 (omega (arith, fixed-length))
      ∙ ap (λ (r : Row). r.month) (sym (fixed-place t (announced_size t) i h))
      ∙ sym (starts-at (rows_of t) i never (omega (arith, len)))

  pub start-announced : (i : ℕ) → fixed_rows ≤ i → i - fixed_rows < announced_size t → (announced_row t (i - fixed_rows)).month ≡ get_or
      (starts (rows_of t)) i never
  start-announced i l h =
      ap (λ (r : Row). r.month) (sym (announced_place t (announced_size t) (i - fixed_rows) h))
      ∙ ap (λ (k : ℕ). (get_or (rows_of t) k none).month) back
      ∙ sym (starts-at (rows_of t) i never (omega (arith, len)))
    where
      back : fixed_rows + (i - fixed_rows) ≡ i
      back = omega arith

  pub start-past : (i : ℕ) → fixed_rows ≤ i → announced_size t ≤ i - fixed_rows → never ≡ get_or (starts (rows_of t)) i never
  start-past i l h = sym (starts-past (rows_of t) i never (omega (arith, len)))

  -- past the last row nothing is read
  pub no_row : (k : ℕ) (mjd f : Float) → 0 < k → fixed_rows + announced_size t ≤ k - 1 → nought ≡ offset_by (rows_of t) k mjd f
  no_row k mjd f p h =
      let e = row-past (rows_of t) (k - 1) (omega (arith, len)) in
      row_stays (rows_of t) k mjd f p (ap (λ (r : Row). eqb r.rate 0) e) nought (none-seconds ∙ ap seconds_of (sym e))
