-- The rows of a table with announced ones: how many, which row stands at which place, which of them drift, and the look-up from the end.
-- Assumes nothing.
use Rattle.std.proofs.Common.{◌≡◌, ℕ, zero, suc, ◌+◌, ◌-◌, ◌*◌, ◌/◌, ◌<◌, ◌≤◌, Bool, true, false, cond, not, ◌&&◌, eqb, ltb, leb, List, [], ◌∷◌, ◌++◌, length}
use Rattle.std.proofs.Common.{get_or, drop, sym, refl, ap, ◌∙◌, le_refl, not-suc-le-zero, add-suc, arith, length-append, length-drop, ltb-false, ltb-true}
use Rattle.std.proofs.Common.{le-ltb, leb-false, leb-true}
use mathlib.Core.List.{map-append}
use lib.ListN.{length-map, get_or-append}
use lib.Seq.{get_or_at, drop-append-le}
use Rattle.leap_table.specs.declared.rows.AnnouncedRows.{AnnouncedRows}
use Rattle.leap_table.specs.rows.Table.{Row, fixed, none, starts, reached, in_turn, rising, fixed_rows, last_month, last_seconds}
use Rattle.leap_table.specs.rows.Announced.{seconds_at, announced_row, rows_to, least, announced_size, one_apart, one_second, by_seconds}
use Rattle.leap_table.proofs.rows.Reached.{at_most, last-has-begun, last-has-not}
use Rattle.leap_table.proofs.rows.Rows.{fixed-length, drifts}
use Rattle.leap_table.proofs.rows.InTurn.{last_of, last-of-more, one_more}

-- the smaller of two numbers is at most each
least-left : (a b : ℕ) → least a b ≤ a
least-left a b = go (leb a b) refl
  where
    go : (t : Bool) → leb a b ≡ t → cond t a b ≤ a
    go true e = omega arith
    go false e = omega (arith, leb-false a b e)

pub least-right : (a b : ℕ) → least a b ≤ b
least-right a b = go (leb a b) refl
  where
    go : (t : Bool) → leb a b ≡ t → cond t a b ≤ b
    go true e = leb-true a b e
    go false e = omega arith

module _ (t : AnnouncedRows) where
  pub table-length : (n : ℕ) → length (rows_to t n) ≡ fixed_rows + n
  unfolding rows_to
  table-length zero = fixed-length
  table-length (suc n) = length-append (rows_to t n) (announced_row t n ∷ []) ∙ go (length (rows_to t n)) (table-length n)
    where
      go : (k : ℕ) → k ≡ fixed_rows + n → k + 1 ≡ fixed_rows + suc n
      go k e = omega arith

  pub at_most_16 : announced_size t ≤ 16
  unfolding announced_size
  at_most_16 = least-right (least t.months_size t.seconds_size) 16

  -- ---- the rows by their places
  pub fixed-place : (n k : ℕ) → k < fixed_rows → get_or (rows_to t n) k none ≡ get_or fixed k none
  unfolding rows_to
  fixed-place zero k h = refl
  fixed-place (suc n) k h = get_or-append (rows_to t n) (announced_row t n ∷ []) none k (omega (arith, table-length n)) ∙ fixed-place n k h

  pub announced_place : (n k : ℕ) → k < n → get_or (rows_to t n) (fixed_rows + k) none ≡ announced_row t k
  unfolding rows_to
  announced_place zero k h = absurd (not-suc-le-zero h)
  announced_place (suc n) k h = go (ltb k n) refl (λ g. announced_place n k g)
    where
      same : (a b : ℕ) → ltb a b ≡ false → a < suc b → a ≡ b
      same a b e g = omega (arith, ltb-false a b e)

      go : (b : Bool) → ltb k n ≡ b → (k < n → get_or (rows_to t n) (fixed_rows + k) none ≡ announced_row t k)
          → get_or (rows_to t n ++ (announced_row t n ∷ [])) (fixed_rows + k) none ≡ announced_row t k
      go true e more = get_or-append (rows_to t n) (announced_row t n ∷ []) none (fixed_rows + k) (omega (arith, table-length n, ltb-true k n e))
          ∙ more (ltb-true k n e)
      go false e more = get_or_at (rows_to t n) (announced_row t n) [] none (fixed_rows + k)
          (table-length n ∙ ap (λ (j : ℕ). fixed_rows + j) (sym (same k n e h)))
          ∙ ap (announced_row t) (sym (same k n e h))

  -- the rows of places 0 to 13 drift, and no other
  pub table-drifts : (n k : ℕ) → k < fixed_rows + n → eqb (get_or (rows_to t n) k none).rate 0 ≡ not (ltb k 14)
  table-drifts n k h = go (ltb k fixed_rows) refl
    where
      back : (j : ℕ) → fixed_rows ≤ j → fixed_rows + (j - fixed_rows) ≡ j
      back j g = omega arith

      go : (b : Bool) → ltb k fixed_rows ≡ b → eqb (get_or (rows_to t n) k none).rate 0 ≡ not (ltb k 14)
      go true e = ap (λ (r : Row). eqb r.rate 0) (fixed-place n k (ltb-true k fixed_rows e)) ∙ drifts k (ltb-true k fixed_rows e)
      go false e =
          let g = ltb-false k fixed_rows e in
          ap (λ (j : ℕ). eqb (get_or (rows_to t n) j none).rate 0) (sym (back k g))
          ∙ ap (λ (r : Row). eqb r.rate 0) (announced_place n (k - fixed_rows) (omega arith))
          ∙ sym (ap not (le-ltb k 14 (omega arith)))

  -- ---- the look-up from the end
  pub starts_more : (n : ℕ) → starts (rows_to t (suc n)) ≡ starts (rows_to t n) ++ ((announced_row t n).month ∷ [])
  unfolding rows_to
  starts_more n = map-append (λ (r : Row). r.month) (rows_to t n) (announced_row t n ∷ [])

  pub starts-length : (n : ℕ) → length (starts (rows_to t n)) ≡ fixed_rows + n
  starts-length n = length-map (rows_to t n) (λ (r : Row). r.month) ∙ table-length n

  pub announced_found : (k n : ℕ) → (announced_row t k).month ≤ n → reached (starts (rows_to t (suc k))) n ≡ fixed_rows + suc k
  announced_found k n h =
      ap (λ (l : List ℕ). reached l n) (starts_more k)
      ∙ last-has-begun (starts (rows_to t k)) (announced_row t k).month n h
      ∙ ap suc (starts-length k)
      ∙ sym (add-suc fixed_rows k)

  pub announced_passed : (k n : ℕ) → n < (announced_row t k).month → reached (starts (rows_to t (suc k))) n ≡ reached (starts (rows_to t k)) n
  announced_passed k n h =
      ap (λ (l : List ℕ). reached l n) (starts_more k)
      ∙ last-has-not (starts (rows_to t k)) (announced_row t k).month n h

  -- not fewer rows than in the fixed table, and not more than the table has
  pub no_fewer : (k n : ℕ) → reached (starts fixed) n ≤ reached (starts (rows_to t k)) n
  unfolding rows_to
  no_fewer zero n = le_refl _
  no_fewer (suc k) n = go (leb (announced_row t k).month n) refl (no_fewer k n)
    where
      go : (b : Bool) → leb (announced_row t k).month n ≡ b → reached (starts fixed) n ≤ reached (starts (rows_to t k)) n
          → reached (starts fixed) n ≤ reached (starts (rows_to t (suc k))) n
      go true e h = omega (arith, announced_found k n (leb-true (announced_row t k).month n e), at_most (starts fixed) n, starts-length 0)
      go false e h = omega (arith, announced_passed k n (leb-false (announced_row t k).month n e))

  pub most-of-table : (k n : ℕ) → reached (starts (rows_to t k)) n ≤ fixed_rows + k
  most-of-table k n = omega (arith, at_most (starts (rows_to t k)) n, starts-length k)

  -- ---- the tests, with one row more
  abbrev pub month_before : ℕ → ℕ
  month_before zero = last_month
  month_before (suc n) = (announced_row t n).month

  last-month-fixed : last_of 0 (starts (rows_to t 0)) ≡ last_month
  unfolding rows_to fixed
  last-month-fixed = refl

  last-month : (n : ℕ) → last_of 0 (starts (rows_to t n)) ≡ month_before n
  last-month zero = last-month-fixed
  last-month (suc n) = ap (last_of 0) (starts_more n) ∙ last-of-more 0 (starts (rows_to t n)) (announced_row t n).month

  pub rises-more : (n : ℕ) → rising (starts (rows_to t (suc n))) ≡ rising (starts (rows_to t n)) && ltb (month_before n) (announced_row t n).month
  rises-more n =
      ap rising (starts_more n)
      ∙ one_more ltb 0 (starts (rows_to t n)) (announced_row t n).month (omega (arith, starts-length n))
      ∙ ap (λ (m : ℕ). rising (starts (rows_to t n)) && ltb m (announced_row t n).month) (last-month n)

  abbrev pub seconds_before : ℕ → ℕ
  seconds_before zero = last_seconds
  seconds_before (suc n) = seconds_at t n

  whole-more : (n : ℕ) → drop 14 (rows_to t (suc n)) ≡ drop 14 (rows_to t n) ++ (announced_row t n ∷ [])
  unfolding rows_to
  whole-more n = drop-append-le 14 (rows_to t n) (announced_row t n ∷ []) (omega (arith, table-length n))

  back_to : (s : ℕ) → 10000000 * s / 10000000 ≡ s
  back_to s = omega arith

  last-seconds-fixed : (last_of none (drop 14 (rows_to t 0))).units / 10000000 ≡ last_seconds
  unfolding rows_to fixed
  last-seconds-fixed = refl

  last-seconds : (n : ℕ) → (last_of none (drop 14 (rows_to t n))).units / 10000000 ≡ seconds_before n
  last-seconds zero = last-seconds-fixed
  last-seconds (suc n) =
      ap (λ (l : List Row). (last_of none l).units / 10000000) (whole-more n)
      ∙ ap (λ (r : Row). r.units / 10000000) (last-of-more none (drop 14 (rows_to t n)) (announced_row t n))
      ∙ back_to (seconds_at t n)

  pub steps-more : (n : ℕ) → by_seconds (rows_to t (suc n)) ≡ by_seconds (rows_to t n) && one_apart (seconds_before n) (seconds_at t n)
  steps-more n =
      ap (in_turn one_second) (whole-more n)
      ∙ one_more one_second none (drop 14 (rows_to t n)) (announced_row t n) (left n)
      ∙ (λ i. by_seconds (rows_to t n) && one_apart (last-seconds n i) (back_to (seconds_at t n) i))
    where
      left : (n : ℕ) → 0 < length (drop 14 (rows_to t n))
      left n = simp length-drop (omega (arith, table-length n))
