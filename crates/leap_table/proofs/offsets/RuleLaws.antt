-- What a rule says: the row that it names is the last that has begun, the offset is that row's, and in every table that is taken the rows of places 0 to 13
-- drift, no row has begun before 1960, and an announced row is one of place `fixed_rows` or later. Assumes nothing.
use Rattle.std.proofs.Common.{◌≡◌, ℕ, zero, suc, ◌+◌, ◌<◌, ◌≤◌, Bool, true, false, cond, not, eqb, ltb, List, [], ◌∷◌, length, get_or, pos, sym, refl, ap, ◌∙◌}
use Rattle.std.proofs.Common.{arith, ltb-false, ltb-true, le-ltb, lt-ltb}
use lib.ListN.{get_or-append}
use lib.Ieee.{Float}
use Rattle.refusals.specs.Outcome.{answer}
use Rattle.floats.specs.Whole.{nought}
use Rattle.leap_table.specs.declared.rows.AnnouncedRows.{AnnouncedRows}
use Rattle.leap_table.specs.declared.offsets.Rule.{Rule}
use Rattle.leap_table.specs.declared.offsets.Rule.TheVariants.{Absent, Drifting, Whole}
use Rattle.leap_table.specs.rows.Table.{Row, fixed, starts, reached, LastBegun, month_number, none, fixed_rows}
use Rattle.leap_table.specs.rows.Announced.{announced_row, rows_to, announced_size, rows_of, table_of}
use Rattle.leap_table.specs.offsets.Offset.{by_row, offset_by, offset_at}
use Rattle.leap_table.specs.offsets.Rule.{rule_by, rule_of, rule_at}
use Rattle.leap_table.proofs.rows.Reached.{last_begun, none-begun, high}
use Rattle.leap_table.proofs.rows.Tables.{table-drifts, announced_place, starts_more, starts-length, most-of-table, no_fewer}
use Rattle.leap_table.proofs.rows.TablesTaken.{when_taken}
use Rattle.leap_table.proofs.rows.TableLaws.{table-rises}
use Rattle.leap_table.proofs.offsets.Years.{one-row}

-- ---- which rule it is, by the number of rows reached
place : Rule → ℕ
place Absent = 0
place (Drifting i) = suc i
place (Whole i) = suc i

placed : (rows : List Row) (k : ℕ) → place (rule_by rows k) ≡ k
unfolding rule_by place
placed rows zero = refl
placed rows (suc i) = go (eqb (get_or rows i none).rate 0)
  where
    go : (b : Bool) → place (cond b (Whole i) (Drifting i)) ≡ suc i
    go true = refl
    go false = refl

module _ (rows : List Row) (n : ℕ) where
  reached-by : (r : Rule) → rule_of rows n ≡ r → reached (starts rows) n ≡ place r
  unfolding rule_of
  reached-by r e = sym (placed rows (reached (starts rows) n)) ∙ ap place e

  -- ---- THE ROW NAMED is the last that has begun; with none, no row has begun
  pub drifting-last-begun : (i : ℕ) → rule_of rows n ≡ Drifting i → LastBegun (starts rows) n i
  unfolding place
  drifting-last-begun i e = last_begun (starts rows) n i (reached-by (Drifting i) e)

  pub whole-last-begun : (i : ℕ) → rule_of rows n ≡ Whole i → LastBegun (starts rows) n i
  unfolding place
  whole-last-begun i e = last_begun (starts rows) n i (reached-by (Whole i) e)

  pub absent-none-begun : rule_of rows n ≡ Absent → (j : ℕ) → j < length (starts rows) → n < get_or (starts rows) j 0
  unfolding place
  absent-none-begun e = none-begun (starts rows) n (reached-by Absent e)

  -- ---- THE OFFSET is that of the row named, and 0 with none
  by_place : (k : ℕ) → reached (starts rows) n ≡ k → (mjd f : Float) → offset_at rows n mjd f ≡ offset_by rows k mjd f
  unfolding offset_at
  by_place k e mjd f = ap (λ (j : ℕ). offset_by rows j mjd f) e

  pub drifting-offset : (i : ℕ) → rule_of rows n ≡ Drifting i → (mjd f : Float) → offset_at rows n mjd f ≡ by_row (get_or rows i none) mjd f
  unfolding place offset_by
  drifting-offset i e = by_place (suc i) (reached-by (Drifting i) e)

  pub whole-offset : (i : ℕ) → rule_of rows n ≡ Whole i → (mjd f : Float) → offset_at rows n mjd f ≡ by_row (get_or rows i none) mjd f
  unfolding place offset_by
  whole-offset i e = by_place (suc i) (reached-by (Whole i) e)

  pub absent-offset : rule_of rows n ≡ Absent → (mjd f : Float) → offset_at rows n mjd f ≡ nought
  unfolding place offset_by
  absent-offset e = by_place 0 (reached-by Absent e)

-- ---- in every table
module _ (t : AnnouncedRows) (n : ℕ) where
  abbrev k : ℕ
  k = reached (starts (rows_of t)) n

  abbrev ruled : ℕ → Rule
  ruled i = cond (ltb i 14) (Drifting i) (Whole i)

  by-fourteen : (i : ℕ) → k ≡ suc i → rule_of (rows_of t) n ≡ ruled i
  unfolding rule_of rule_by
  by-fourteen i e =
      ap (rule_by (rows_of t)) e
      ∙ ap (λ (b : Bool). cond b (Whole i) (Drifting i)) (table-drifts t (announced_size t) i (omega (arith, e, most-of-table t (announced_size t) n)))
      ∙ go (ltb i 14)
    where
      go : (b : Bool) → cond (not b) (Whole i) (Drifting i) ≡ cond b (Drifting i) (Whole i)
      go true = refl
      go false = refl

  -- a rule that drifts names one of the first 14 rows, and one of whole seconds a later one
  pub drifting-below-14 : (i : ℕ) → rule_of (rows_of t) n ≡ Drifting i → i < 14
  unfolding place
  drifting-below-14 i e = go (ltb i 14) refl (sym (by-fourteen i (reached-by (rows_of t) n (Drifting i) e)) ∙ e)
    where
      go : (b : Bool) → ltb i 14 ≡ b → cond b (Drifting i) (Whole i) ≡ Drifting i → i < 14
      go true p h = ltb-true i 14 p
      go false p h = let z : ◌≡◌ {A = ℕ} 0 1 = cc in absurd (omega arith)

  pub whole-from-14 : (i : ℕ) → rule_of (rows_of t) n ≡ Whole i → 14 ≤ i
  unfolding place
  whole-from-14 i e = go (ltb i 14) refl (sym (by-fourteen i (reached-by (rows_of t) n (Whole i) e)) ∙ e)
    where
      go : (b : Bool) → ltb i 14 ≡ b → cond b (Drifting i) (Whole i) ≡ Whole i → 14 ≤ i
      go true p h = let z : ◌≡◌ {A = ℕ} 0 1 = cc in absurd (omega arith)
      go false p h = ltb-false i 14 p

  -- and the row reached says which
  pub drifts-below-14 : (i : ℕ) → k ≡ suc i → i < 14 → rule_of (rows_of t) n ≡ Drifting i
  drifts-below-14 i e h = by-fourteen i e ∙ ap (λ (b : Bool). cond b (Drifting i) (Whole i)) (lt-ltb i 14 h)

  pub stays-from-14 : (i : ℕ) → k ≡ suc i → 14 ≤ i → rule_of (rows_of t) n ≡ Whole i
  stays-from-14 i e h = by-fourteen i e ∙ ap (λ (b : Bool). cond b (Drifting i) (Whole i)) (le-ltb i 14 h)

  -- ABSENT exactly before January 1960
  pub absent-before-1960 : rule_of (rows_of t) n ≡ Absent → n < 23520
  unfolding place
  absent-before-1960 e = go (ltb n 23520) refl
    where
      go : (b : Bool) → ltb n 23520 ≡ b → n < 23520
      go true p = ltb-true n 23520 p
      go false p = absurd (omega (arith, reached-by (rows_of t) n Absent e, no_fewer t (announced_size t) n, one-row n (ltb-false n 23520 p)))

  -- an announced row has place `fixed_rows` or a later one
  pub whole-announced : (i : ℕ) → rule_of (rows_of t) n ≡ Whole (fixed_rows + i) → (i < announced_size t)
      × (get_or (rows_of t) (fixed_rows + i) none ≡ announced_row t i)
  unfolding place
  whole-announced i e =
      let h : i < announced_size t = omega (arith, reached-by (rows_of t) n (Whole (fixed_rows + i)) e, most-of-table t (announced_size t) n) in
      (h, announced_place t (announced_size t) i h)

-- the first row begins in January 1960
first-start : (t : AnnouncedRows) (j : ℕ) → get_or (starts (rows_to t j)) 0 0 ≡ 23520
unfolding rows_to fixed
first-start t zero = refl
first-start t (suc j) =
    ap (λ (l : List ℕ). get_or l 0 0) (starts_more t j)
    ∙ get_or-append (starts (rows_to t j)) ((announced_row t j).month ∷ []) 0 0 (omega (arith, starts-length t j))
    ∙ first-start t j

pub before-1960-absent : (t : AnnouncedRows) (rows : List Row) → table_of t ≡ answer rows → (n : ℕ) → n < 23520 → rule_of rows n ≡ Absent
unfolding rule_of rule_by
before-1960-absent t rows e n h =
    let a = (when_taken t rows e).all in
    let p = ap (λ (l : List Row). get_or (starts l) 0 0) a ∙ first-start t (announced_size t) in
    let q = ap (λ (l : List Row). length (starts l)) a ∙ starts-length t (announced_size t) in
    ap (rule_by rows) (none_left (reached (starts rows) n) (high (starts rows) (table-rises t rows e) 0 n (omega (arith, q)) (omega (arith, p, h))))
  where
    none_left : (k : ℕ) → k ≤ 0 → k ≡ 0
    none_left k g = omega arith

-- ---- the first and the last row of each kind in the fixed table, and the months beside them
pub rule-cases : (rule_at fixed (pos 1959) (pos 12) ≡ Absent) × (rule_at fixed (pos 1960) (pos 1) ≡ Drifting 0)
    × (rule_at fixed (pos 1971) (pos 12) ≡ Drifting 13) × (rule_at fixed (pos 1972) (pos 1) ≡ Whole 14) × (rule_at fixed (pos 2016) (pos 12) ≡ Whole 40)
    × (rule_at fixed (pos 2017) (pos 1) ≡ Whole 41)
unfolding rule_at rule_of rule_by month_number reached fixed
rule-cases = (refl, refl, refl, refl, refl, refl)
