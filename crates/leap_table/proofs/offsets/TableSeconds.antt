-- A table that is taken, by months: up to the last fixed row's month it is the fixed table, from 1972 on TAI-UTC is 10 to `most_seconds` whole seconds at every
-- fraction of a day, and from one month to the next it stays or steps by one second, the latter where a row begins.
-- Assumes nothing.
use Rattle.std.proofs.Common.{◌≡◌, ℕ, zero, suc, ◌+◌, ◌-◌, ◌*◌, ◌/◌, ◌^◌, ◌<◌, ◌≤◌, Bool, true, false, ◌&&◌, ◌||◌, T, eqb, ltb, leb, ◌⊎◌, List, length, get_or}
use Rattle.std.proofs.Common.{drop, sym, refl, ap, ◌∙◌, subst, add-suc, arith, eqb→eq, leb→le, length-drop, get_or-drop, ltb-false, ltb-true}
use lib.Ieee.{Float, binary64, of_int}
use lib.Ieee.Scale.{round_same}
use lib.Ieee.Fits.{and_l, and_r}
use Rattle.refusals.specs.Outcome.{answer}
use Rattle.leap_table.specs.declared.rows.AnnouncedRows.{AnnouncedRows}
use Rattle.leap_table.specs.rows.Table.{Row, fixed, starts, reached, rising, none, fixed_rows, last_month, last_seconds, most_seconds}
use Rattle.leap_table.specs.rows.Announced.{seconds_at, announced_row, rows_to, announced_size, one_apart, one_second, by_seconds, table_of}
use Rattle.leap_table.specs.offsets.Offset.{seconds_of, by_row, offset_by, offset_at, seconds_in, whole_f}
use Rattle.leap_table.proofs.rows.Reached.{at_most, member, month-later}
use Rattle.leap_table.proofs.rows.Rows.{fixed-length, every, at}
use Rattle.leap_table.proofs.rows.InTurn.{in_turn_at, all_hold}
use Rattle.leap_table.proofs.rows.Tables.{table-length, fixed-place, announced_place, announced_passed, most-of-table, month_before, rises-more}
use Rattle.leap_table.proofs.rows.TablesTaken.{Taken, when_taken, all-count}
use Rattle.leap_table.proofs.rows.TableLaws.{near, high-month, table-rises, announced_seconds_near}
use Rattle.leap_table.proofs.offsets.TableYears.{whole-rows-of, row-seconds-of}

-- ---- the fixed rows from place 14 on are 10 to `last_seconds` whole seconds: computed
whole_test : ℕ → Row → Bool
whole_test k r = ltb k 14 || (eqb r.units (10000000 * (r.units / 10000000)) && (leb 10 (r.units / 10000000) && leb (r.units / 10000000) last_seconds))

tested : T (every whole_test 0 fixed)
unfolding fixed whole_test
tested = tt

-- a row of whole seconds, from low to high
pub record WholeRow (r : Row) (low high : ℕ) : Type 0 where
  pub units : r.units ≡ 10000000 * (r.units / 10000000)
  pub at_least : low ≤ r.units / 10000000
  pub at_most : r.units / 10000000 ≤ high

fixed-whole : (k : ℕ) → 14 ≤ k → k < fixed_rows → WholeRow (get_or fixed k none) 10 last_seconds
unfolding whole_test
fixed-whole k h l = go (ltb k 14) refl (at whole_test fixed tested k (omega (arith, fixed-length)))
  where
    go : (b : Bool) → ltb k 14 ≡ b → T
        (b || (eqb (get_or fixed k none).units (10000000 * ((get_or fixed k none).units / 10000000)) &&
        (leb 10 ((get_or fixed k none).units / 10000000) && leb ((get_or fixed k none).units / 10000000) last_seconds))) → WholeRow
        (get_or fixed k none) 10 last_seconds
    go true e t = absurd (omega (arith, ltb-true k 14 e))
    go false e t =
        let s = (get_or fixed k none).units / 10000000 in
        let p = and_l (eqb (get_or fixed k none).units (10000000 * s)) (leb 10 s && leb s last_seconds) t in
        let q = and_r (eqb (get_or fixed k none).units (10000000 * s)) (leb 10 s && leb s last_seconds) t in
        record {
          units = eqb→eq _ _ p;
          at_least = leb→le 10 s (and_l (leb 10 s) (leb s last_seconds) q);
          at_most =
              leb→le s last_seconds (and_r (leb 10 s) (leb s last_seconds) q);
        }

whole-seconds-of-row : (r : Row) (s : ℕ) → r.units ≡ 10000000 * s → seconds_of r ≡ whole_f s
unfolding seconds_of of_int
whole-seconds-of-row r s e = round_same binary64 false r.units (10 ^ 7) s 1 (omega arith) (omega arith) (omega arith)

fixed-starts : length (starts fixed) ≡ fixed_rows
unfolding fixed
fixed-starts = refl

placed : (t : AnnouncedRows) (n j : ℕ) → j ≤ fixed_rows → (mjd f : Float) → offset_by (rows_to t n) j mjd f ≡ offset_by fixed j mjd f
unfolding offset_by
placed t n zero h mjd f = refl
placed t n (suc j) h mjd f = ap (λ (r : Row). by_row r mjd f) (fixed-place t n j (omega arith))

module _ (t : AnnouncedRows) (rows : List Row) (e : table_of t ≡ answer rows) where
  abbrev k : Taken t rows
  k = when_taken t rows e

  abbrev M : ℕ
  M = t.months_size

  size_is : announced_size t ≡ M
  size_is = all-count t k.one_size k.most

  length-is : length rows ≡ fixed_rows + M
  length-is = ap length k.all ∙ table-length t (announced_size t) ∙ ap (λ (n : ℕ). fixed_rows + n) size_is

  -- ---- the rows from place 14 on
  announced_whole : (i : ℕ) → i < M → WholeRow (announced_row t i) 10 most_seconds
  announced_whole i h =
      let (a, b) = announced_seconds_near t rows e i h in
      let g = k.most in
      record {
        units = back (seconds_at t i);
        at_least = omega (arith, back' (seconds_at t i), a, h, g);
        at_most = omega
            (arith, back' (seconds_at t i), b, h, g);
      }
    where
      back' : (s : ℕ) → 10000000 * s / 10000000 ≡ s
      back' s = omega arith

      back : (s : ℕ) → 10000000 * s ≡ 10000000 * (10000000 * s / 10000000)
      back s = omega arith

  pub row-whole : (i : ℕ) → 14 ≤ i → i < length rows → WholeRow (get_or rows i none) 10 most_seconds
  row-whole i h l = go (ltb i fixed_rows) refl
    where
      place : (j : ℕ) → fixed_rows ≤ j → fixed_rows + (j - fixed_rows) ≡ j
      place j g = omega arith

      wider : {r : Row} → WholeRow r 10 last_seconds → WholeRow r 10 most_seconds
      wider w = record { units = w.units; at_least = w.at_least; at_most = omega (arith, w.at_most) }

      in_rows : (j : ℕ) → get_or rows j none ≡ get_or (rows_to t M) j none
      in_rows j = ap (λ (l : List Row). get_or l j none) k.all ∙ ap (λ (n : ℕ). get_or (rows_to t n) j none) size_is

      go : (b : Bool) → ltb i fixed_rows ≡ b → WholeRow (get_or rows i none) 10 most_seconds
      go true p = subst (λ (r : Row). WholeRow r 10 most_seconds) (sym (in_rows i ∙ fixed-place t M i (ltb-true i fixed_rows p)))
          (wider (fixed-whole i h (ltb-true i fixed_rows p)))
      go false p =
          let g = ltb-false i fixed_rows p in
          subst (λ (r : Row). WholeRow r 10 most_seconds)
          (sym (in_rows i ∙ ap (λ (j : ℕ). get_or (rows_to t M) j none) (sym (place i g)) ∙ announced_place t M (i - fixed_rows) (omega (arith, l, length-is))))
          (announced_whole (i - fixed_rows) (omega (arith, l, length-is)))

  pub row_step : (i : ℕ) → 14 ≤ i → suc i < length rows → one_second (get_or rows i none) (get_or rows (suc i) none) ≡ true
  row_step i h l =
      let s : by_seconds rows ≡ true = ap by_seconds k.all ∙ k.by_ones in
      let w = in_turn_at one_second none (drop 14 rows) s (i - 14) (simp length-drop (omega arith)) in
      subst (λ (j : ℕ). one_second (get_or rows j none) (get_or rows (suc j) none) ≡ true) (back i h)
      (ap (λ (r : Row). one_second r (get_or rows (suc (14 + (i - 14))) none)) (sym (get_or-drop 14 rows (i - 14) none))
      ∙ ap (one_second (get_or (drop 14 rows) (i - 14) none))
      (ap (λ (j : ℕ). get_or rows j none) (sym (add-suc 14 (i - 14))) ∙ sym (get_or-drop 14 rows (suc (i - 14)) none))
      ∙ w)
    where
      back : (j : ℕ) → 14 ≤ j → 14 + (j - 14) ≡ j
      back j g = omega arith

  -- ---- in months
  module _ (n : ℕ) (h : 23664 ≤ n) where
    abbrev R : ℕ
    R = reached (starts rows) n

    low_rows : 15 ≤ R
    low_rows = subst (λ (l : List Row). 15 ≤ reached (starts l) n) (sym k.all) (whole-rows-of t n h)

    high-rows : R ≤ length rows
    high-rows = subst (λ (l : List Row). reached (starts l) n ≤ length l) (sym k.all)
        (omega (arith, most-of-table t (announced_size t) n, table-length t (announced_size t)))

    whole_here : WholeRow (get_or rows (R - 1) none) 10 most_seconds
    whole_here = row-whole (R - 1) (omega (arith, low_rows)) (omega (arith, low_rows, high-rows))

    pub seconds-in-range : (10 ≤ seconds_in rows n) × (seconds_in rows n ≤ most_seconds)
    seconds-in-range = (whole_here.at_least, whole_here.at_most)

    pub table-seconds : (mjd f : Float) → offset_at rows n mjd f ≡ whole_f (seconds_in rows n)
    table-seconds mjd f =
        ap (λ (l : List Row). offset_at l n mjd f) k.all
        ∙ sym (row-seconds-of t n h mjd f)
        ∙ ap (λ (l : List Row). seconds_of (get_or l (reached (starts l) n - 1) none)) (sym k.all)
        ∙ whole-seconds-of-row (get_or rows (R - 1) none) (seconds_in rows n) whole_here.units

    -- a month later
    pub seconds-stay : member (suc n) (starts rows) ≡ false → seconds_in rows (suc n) ≡ seconds_in rows n
    seconds-stay b = ap (λ (j : ℕ). (get_or rows (j - 1) none).units / 10000000) (month-later (starts rows) (table-rises t rows e) n ∙ rw b)

    pub seconds-step : member (suc n) (starts rows) ≡ true → (seconds_in rows (suc n) ≡ seconds_in rows n + 1) ⊎
        (seconds_in rows n ≡ seconds_in rows (suc n) + 1)
    seconds-step b =
        let q : reached (starts rows) (suc n) ≡ suc R = month-later (starts rows) (table-rises t rows e) n ∙ rw b in
        near (seconds_in rows n) (seconds_in rows (suc n))
        (ap (λ (j : ℕ). one_apart (seconds_in rows n) ((get_or rows (j - 1) none).units / 10000000)) q
        ∙ ap (λ (j : ℕ). one_apart (seconds_in rows n) ((get_or rows j none).units / 10000000)) (next R low_rows)
        ∙ row_step (R - 1) (omega (arith, low_rows)) (omega (arith, q, low_rows, most-later)))
      where
        next : (j : ℕ) → 15 ≤ j → suc j - 1 ≡ suc (j - 1)
        next j g = omega arith

        most-later : reached (starts rows) (suc n) ≤ length rows
        most-later = subst (λ (l : List Row). reached (starts l) (suc n) ≤ length l) (sym k.all)
            (omega (arith, most-of-table t (announced_size t) (suc n), table-length t (announced_size t)))

  -- ---- up to the last fixed row's month the table is the fixed one
  none-begun-yet : (i : ℕ) → i ≤ M → (n : ℕ) → n < suc last_month → reached (starts (rows_to t i)) n ≡ reached (starts fixed) n
  unfolding rows_to
  none-begun-yet zero g n h = refl
  none-begun-yet (suc i) g n h =
      let s : rising (starts (rows_to t M)) ≡ true = ap (λ (j : ℕ). rising (starts (rows_to t j))) (sym size_is) ∙ k.in_order in
      let (p, q) = all_hold (λ j. rising (starts (rows_to t j))) (λ j. ltb (month_before t j) (announced_row t j).month) (rises-more t) M s i g in
      announced_passed t i n (omega (arith, high-month t i p, ltb-true (month_before t i) (announced_row t i).month q)) ∙ none-begun-yet i (omega arith) n h

  pub same-before-announced : (n : ℕ) → n < suc last_month → (mjd f : Float) → offset_at rows n mjd f ≡ offset_at fixed n mjd f
  unfolding offset_at
  same-before-announced n h mjd f =
      ap (λ (l : List Row). offset_by l (reached (starts l) n) mjd f) (k.all ∙ ap (rows_to t) size_is)
      ∙ ap (λ (j : ℕ). offset_by (rows_to t M) j mjd f) (none-begun-yet M (omega arith) n h)
      ∙ in_fixed (reached (starts fixed) n) (at_most (starts fixed) n)
    where
      in_fixed : (j : ℕ) → j ≤ length (starts fixed) → offset_by (rows_to t M) j mjd f ≡ offset_by fixed j mjd f
      in_fixed j g = placed t M j (omega (arith, fixed-starts)) mjd f
