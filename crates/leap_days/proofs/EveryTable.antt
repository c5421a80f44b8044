-- EVERY TABLE THAT IS TAKEN: its rows, its offsets and its leaps, in one place. Assumes nothing.
use mathlib.Core.Path.{◌≡◌, ap, subst, ◌∙◌}
use mathlib.Core.List.{List}
use Prim.Native.Nat.{ℕ, suc, ◌+◌, ◌<◌}
use native.Mathlib.Omega.{arith}
use lib.Dec.{eqb, ltb}
use lib.ListN.{length, get_or, length-map}
use lib.Ieee.Bits.{is_true}
use borrow.Author.Tests.{ltb-true}
use Rattle.refusals.specs.Outcome.{answer}
use Rattle.leap_table.specs.declared.rows.AnnouncedRows.{AnnouncedRows}
use Rattle.leap_table.specs.rows.Table.{Row, starts, none, fixed_rows}
use Rattle.leap_table.specs.rows.Announced.{rows_to, table_of}
use Rattle.leap_table.proofs.rows.InTurn.{in_turn_at}
use Rattle.leap_table.proofs.rows.Tables.{fixed-place, announced_place, table-drifts}
use Rattle.leap_table.proofs.rows.TablesTaken.{Taken, when_taken, all-count}
use Rattle.leap_table.proofs.rows.TableLaws.{near, table-rises, lengths}
use Rattle.leap_table.proofs.offsets.TableSeconds.{row_step, seconds-in-range, table-seconds, same-before-announced}
use Rattle.leap_days.specs.Tables.{seconds_of_row, EveryTable}
use Rattle.leap_days.proofs.TableLeaps.{starts-at, table-leap-on}

module _ (t : AnnouncedRows) (rows : List Row) (e : table_of t ≡ answer rows) where
  abbrev k : Taken t rows
  k = when_taken t rows e

  -- the rows, as many as the size says
  all-rows : rows ≡ rows_to t t.months_size
  all-rows = k.all ∙ ap (rows_to t) (all-count t k.one_size k.most)

  rises-at : (i : ℕ) → suc i < length rows → (get_or rows i none).month < (get_or rows (suc i) none).month
  rises-at i h =
      subst (λ (a : ℕ). a < (get_or rows (suc i) none).month) (starts-at rows i)
      (subst (λ (b : ℕ). get_or (starts rows) i 0 < b) (starts-at rows (suc i))
      (ltb-true _ _ (in_turn_at ltb 0 (starts rows) (is_true _ (table-rises t rows e)) i (omega (arith, h, length-map rows (λ (r : Row). r.month))))))

  pub every_table : EveryTable t rows
  every_table = record {
    count = (lengths t rows e).0;
    most = (lengths t rows e).1;
    fixed_first = λ i h. ap (λ (l : List Row). get_or l i none) all-rows ∙ fixed-place t t.months_size i h;
    announced_after = λ i h. ap (λ (l : List Row). get_or l (fixed_rows + i) none) all-rows ∙ announced_place t t.months_size i h;
    rises = rises-at;
    by_one_second = λ i h l. near (seconds_of_row (get_or rows i none)) (seconds_of_row (get_or rows (suc i) none)) (row_step t rows e i h l);
    drifts = λ i h. ap (λ (l : List Row). eqb (get_or l i none).rate 0) all-rows ∙ table-drifts t t.months_size i (omega (arith, h, (lengths t rows e).0));
    same_to_last_row = same-before-announced t rows e;
    whole = table-seconds t rows e;
    seconds = seconds-in-range t rows e;
    leaps = table-leap-on t rows e;
  }
