-- The whole seconds of the row reached, counted in the fixed rows from 1972 on and read in the announced ones. Assumes nothing.
use Rattle.std.proofs.Common.{◌≡◌, ℕ, ◌+◌, ◌-◌, ◌*◌, ◌/◌, ◌<◌, ◌≤◌, Bool, true, false, ◌||◌, T, eqb, ltb, get_or, ℤ, pos, negsuc, sym, refl, ap, ◌∙◌}
use Rattle.std.proofs.Common.{arith, eqb→eq, ltb-false, ltb-true, le-ltb, lt-ltb}
use lib.Signed.{lt_z}
use Rattle.leap_table.specs.declared.rows.AnnouncedRows.{AnnouncedRows}
use Rattle.leap_table.specs.rows.Table.{Row, fixed, starts, reached, month_number, none, fixed_rows}
use Rattle.leap_table.specs.rows.Announced.{seconds_at, announced_size, rows_of}
use Rattle.leap_table.specs.offsets.Offset.{seconds_in}
use Rattle.leap_table.specs.offsets.WholeSeconds.{whole_seconds}
use Rattle.leap_table.proofs.rows.Rows.{fixed-length, every, at}
use Rattle.leap_table.proofs.offsets.Years.{most-rows, whole-rows}
use Rattle.leap_table.proofs.rows.Tables.{fixed-place, announced_place}

-- ---- the row of place k, from 14 on, has k - 4 seconds: computed
count_test : ℕ → Row → Bool
count_test k r = ltb k 14 || eqb (r.units / 10000000) (k - 4)

tested : T (every count_test 0 fixed)
unfolding fixed count_test
tested = tt

counted : (k : ℕ) → 14 ≤ k → k < fixed_rows → (get_or fixed k none).units / 10000000 ≡ k - 4
unfolding count_test
counted k h l = go (ltb k 14) refl (at count_test fixed tested k (omega (arith, fixed-length)))
  where
    go : (b : Bool) → ltb k 14 ≡ b → T (b || eqb ((get_or fixed k none).units / 10000000) (k - 4)) → (get_or fixed k none).units / 10000000 ≡ k - 4
    go true e t = absurd (omega (arith, ltb-true k 14 e))
    go false e t = eqb→eq _ _ t

-- from 1972 on the seconds of the row reached in the fixed table are the number of rows that have begun, less 5
pub fixed-seconds : (n : ℕ) → 23664 ≤ n → seconds_in fixed n ≡ reached (starts fixed) n - 5
fixed-seconds n h =
    let a = whole-rows n h in
    let b = most-rows n in
    counted (reached (starts fixed) n - 1) (omega (arith, a)) (omega (arith, a, b)) ∙ less (reached (starts fixed) n) a
  where
    less : (j : ℕ) → 15 ≤ j → (j - 1) - 4 ≡ j - 5
    less j g = omega arith

module _ (t : AnnouncedRows) (n k : ℕ) (e : k ≡ reached (starts (rows_of t)) n) (low : 15 ≤ k) where
  here : (get_or (rows_of t) (k - 1) none).units / 10000000 ≡ seconds_in (rows_of t) n
  here = ap (λ (j : ℕ). (get_or (rows_of t) (j - 1) none).units / 10000000) e

  pub in_fixed_row : k ≤ fixed_rows → k - 5 ≡ seconds_in (rows_of t) n
  in_fixed_row h =
      less k low
      ∙ sym (counted (k - 1) (omega arith) (omega arith))
      ∙ ap (λ (r : Row). r.units / 10000000) (sym (fixed-place t (announced_size t) (k - 1) (omega arith)))
      ∙ here
    where
      less : (j : ℕ) → 15 ≤ j → j - 5 ≡ (j - 1) - 4
      less j g = omega arith

  pub in_announced_row : fixed_rows < k → k ≤ fixed_rows + announced_size t → seconds_at t (k - fixed_rows - 1) ≡ seconds_in (rows_of t) n
  in_announced_row h l =
      back (seconds_at t (k - fixed_rows - 1))
      ∙ ap (λ (r : Row). r.units / 10000000) (sym (announced_place t (announced_size t) (k - fixed_rows - 1) (omega arith)))
      ∙ ap (λ (j : ℕ). (get_or (rows_of t) j none).units / 10000000) (place k h)
      ∙ here
    where
      back : (s : ℕ) → s ≡ 10000000 * s / 10000000
      back s = omega arith

      place : (j : ℕ) → fixed_rows < j → fixed_rows + (j - fixed_rows - 1) ≡ j - 1
      place j g = omega arith

-- ---- the tests of the code
pub late : (y : ℤ) (m : ℕ) → lt_z y (pos 1972) ≡ false → 1 ≤ m → 23664 ≤ month_number y m
unfolding month_number
late (pos y) m p h = omega (arith, ltb-false y 1972 p)
late (negsuc y) m p h = let z : ◌≡◌ {A = ℕ} 0 1 = cc in absurd (omega arith)

module _ (t : AnnouncedRows) (y : ℤ) (m : ℕ) where
  pub no_year : lt_z y (pos 1972) ≡ true → 0 ≡ whole_seconds (rows_of t) y m
  unfolding whole_seconds
  no_year p = rw p

  module _ (p : lt_z y (pos 1972) ≡ false) where
    pub month-below : m < 1 → 0 ≡ whole_seconds (rows_of t) y m
    unfolding whole_seconds
    month-below h = rw (p, lt-ltb m 1 h)

    pub month-above : 1 ≤ m → 12 < m → 0 ≡ whole_seconds (rows_of t) y m
    unfolding whole_seconds
    month-above g h = rw (p, le-ltb m 1 g, lt-ltb 12 m h)

    pub a-month : 1 ≤ m → m ≤ 12 → seconds_in (rows_of t) (month_number y m) ≡ whole_seconds (rows_of t) y m
    unfolding whole_seconds
    a-month g h = rw (p, le-ltb m 1 g, le-ltb 12 m h)
