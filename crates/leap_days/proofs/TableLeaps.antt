-- EVERY LEAP OF EVERY TABLE that is taken, by its date: 0.0 before 1960, that of 1959-12-31, the fixed table's in the years of drift, and from 1972 on exactly
-- the step of the row that begins on the next day, 1.0 or -1.0, or 0.0 where none begins. It is the same in both orders of rounding. Assumes nothing.
use mathlib.Core.Path.{◌≡◌, refl, ap, sym, subst, ◌∙◌}
use mathlib.Core.Bool.{Bool, true, false, cond}
use mathlib.Core.Logic.{◌⊎◌, inl, inr}
use mathlib.Core.List.{List, [], ◌∷◌}
use Prim.Native.Nat.{ℕ, zero, suc, ◌+◌, ◌-◌, ◌≤◌, ◌<◌}
use native.Mathlib.Omega.{arith}
use native.Mathlib.Numerals.{add-one}
use lib.Dec.{T, ltb}
use lib.ListN.{get_or}
use lib.IntN.{ℤ, pos, negsuc, nat_abs, suc_ℤ}
use lib.Ieee.{Float, binary64, of_int, of_bits}
use borrow.Author.Tests.{ltb-true, ltb-false}
use Rattle.refusals.specs.Outcome.{Outcome, answer, refusal, onward}
use Rattle.floats.specs.Whole.{nought, half, one}
use Rattle.calendar.specs.Calendar.{month_length}
use Rattle.calendar.specs.Refusals.{next_of}
use Rattle.calendar.specs.DayCount.{mjd_number}
use Rattle.calendar.specs.declared.CalendarDate.{CalendarDate}
use Rattle.leap_table.specs.declared.rows.AnnouncedRows.{AnnouncedRows}
use Rattle.leap_table.specs.declared.offsets.DayOffsets.{DayOffsets}
use Rattle.leap_table.specs.rows.Table.{Row, fixed, starts, reached, month_number, month_of, none, last_month}
use Rattle.leap_table.specs.rows.Announced.{table_of}
use Rattle.leap_table.specs.offsets.Offset.{seconds_in, whole_f}
use Rattle.leap_table.specs.offsets.Leap.{offsets, offsets_of_day, day_offsets, leap_of, leap_at_end_of_day, leap_amount}
use Rattle.leap_table.proofs.rows.Reached.{member, month-later, last_begun}
use Rattle.leap_table.proofs.rows.TablesTaken.{when_taken}
use Rattle.leap_table.proofs.rows.TableLaws.{table-rises}
use Rattle.leap_table.proofs.offsets.TableYears.{whole-rows-of}
use Rattle.leap_table.proofs.offsets.Days.{day-offsets-are, leap-given, leap-came}
use Rattle.leap_table.proofs.offsets.TableSeconds.{seconds-in-range, table-seconds, seconds-stay, seconds-step, same-before-announced}
use Rattle.time_of_day.specs.ExactTime.{leap1959, minus_one_f}
use Rattle.leap_days.specs.drift.Small.{small}
use Rattle.leap_days.proofs.drift.Tests.{same_f}
use Rattle.leap_days.specs.Leaps.{TableLeap, within, second, first, shorter}
use Rattle.leap_days.specs.Tables.{row_in, StepLeap, no_row, row_up, row_down, LeapOn, before_1960, last_of_1959, drifting, from_1972}
use Rattle.leap_days.proofs.Months.{next-month-number, next-month-early}
use Rattle.leap_days.proofs.Whole.{Both, stay, step-up, step_down}
use Rattle.leap_days.proofs.Before1972.{Early, no_row_yet, first-row, by-drift, offsets_by, early-date}

pub starts-at : (l : List Row) (i : ℕ) → get_or (starts l) i 0 ≡ (get_or l i none).month
starts-at [] i = refl
starts-at (r ∷ l) zero = refl
starts-at (r ∷ l) (suc i) = starts-at l i

-- ---- which leap is the one of 1959-12-31
small-not-1959 : (x : Float) → T (small x) → x ≡ leap1959 → ⊥
small-not-1959 x t e = subst (λ (z : Float). T (small z)) e t

one-not-1959 : one ≡ leap1959 → ⊥
one-not-1959 e = subst (λ (z : Float). T (same_f z one)) e tt

minus-one-not-1959 : minus_one_f ≡ leap1959 → ⊥
unfolding of_bits
minus-one-not-1959 e = subst (λ (z : Float). T (same_f z minus_one_f)) e tt

module _ (t : AnnouncedRows) (rows : List Row) (e : table_of t ≡ answer rows) where
  abbrev K : ℕ → ℕ
  K n = seconds_in rows n

  -- ---- FROM 1972 ON, by the seconds of the day's month and of the next day's
  module _ (n n' : ℕ) (h : 23664 ≤ n) (h' : 23664 ≤ n') (j : ℤ) where
    is_whole : offsets_of_day rows n n' j ≡ offsets (whole_f (K n)) (whole_f (K n)) (whole_f (K n'))
    unfolding offsets_of_day
    is_whole =
        let p = table-seconds t rows e n h (of_int binary64 j) nought in
        let q = table-seconds t rows e n h (of_int binary64 j) half in
        let r = table-seconds t rows e n' h' (of_int binary64 (suc_ℤ j)) nought in
        (λ i. offsets (p i) (q i) (r i))

    pub no_step : K n' ≡ K n → Both (offsets_of_day rows n n' j) nought
    no_step s =
        subst (λ (o : DayOffsets). Both o nought) (sym (is_whole ∙ ap (λ (k : ℕ). offsets (whole_f (K n)) (whole_f (K n)) (whole_f k)) s))
        (stay (K n) (omega (arith, (seconds-in-range t rows e n h).1)))

    pub one-second-more : K n' ≡ suc (K n) → Both (offsets_of_day rows n n' j) one
    one-second-more s =
        subst (λ (o : DayOffsets). Both o one) (sym (is_whole ∙ ap (λ (k : ℕ). offsets (whole_f (K n)) (whole_f (K n)) (whole_f k)) s))
        (step-up (K n) (omega (arith, (seconds-in-range t rows e n h).1)))

    pub one-second-less : K n ≡ suc (K n') → Both (offsets_of_day rows n n' j) minus_one_f
    one-second-less s =
        subst (λ (o : DayOffsets). Both o minus_one_f) (sym (is_whole ∙ ap (λ (k : ℕ). offsets (whole_f k) (whole_f k) (whole_f (K n'))) s))
        (step_down (K n') (omega (arith, (seconds-in-range t rows e n' h').1)))

  -- the leap, in both orders
  abbrev Late : ℕ → ℕ → DayOffsets → Type 0
  Late n n' o = StepLeap rows n n' (leap_of o) × (leap_amount o ≡ leap_of o)

  -- ---- a month later: the same row, or one that begins
  module _ (n : ℕ) (h : 23664 ≤ n) where
    abbrev R : ℕ
    R = reached (starts rows) n

    low_rows : 15 ≤ R
    low_rows = subst (λ (l : List Row). 15 ≤ reached (starts l) n) (sym (when_taken t rows e).all) (whole-rows-of t n h)

    same_row : member (suc n) (starts rows) ≡ false → row_in rows (suc n) ≡ row_in rows n
    same_row b = ap (λ (i : ℕ). get_or rows (i - 1) none) (month-later (starts rows) (table-rises t rows e) n ∙ rw b)

    row-begins : member (suc n) (starts rows) ≡ true → (row_in rows (suc n)).month ≡ suc n
    row-begins b =
        let q : reached (starts rows) (suc n) ≡ suc R = month-later (starts rows) (table-rises t rows e) n ∙ rw b in
        let u = last_begun (starts rows) (suc n) R q in
        let v = last_begun (starts rows) n (R - 1) (back R low_rows) in
        ap (λ (i : ℕ). (get_or rows (i - 1) none).month) q
        ∙ ap (λ (i : ℕ). (get_or rows i none).month) (less R)
        ∙ sym (starts-at rows R)
        ∙ exact (get_or (starts rows) R 0) u.has_begun (v.later_not R (omega (arith, low_rows)) u.in_list)
      where
        back : (i : ℕ) → 15 ≤ i → i ≡ suc (i - 1)
        back i g = omega arith

        less : (i : ℕ) → suc i - 1 ≡ i
        less i = omega arith

        exact : (a : ℕ) → a ≤ suc n → n < a → a ≡ suc n
        exact a f g = omega arith

    a-month-later : (j : ℤ) → Late n (suc n) (offsets_of_day rows n (suc n) j)
    a-month-later j = go (member (suc n) (starts rows)) refl
      where
        up : (row_in rows (suc n)).month ≡ suc n → (K (suc n) ≡ K n + 1) ⊎ (K n ≡ K (suc n) + 1) → Late n (suc n) (offsets_of_day rows n (suc n) j)
        up b (inl s) = let (p, q) = one-second-more n (suc n) h (omega arith) j (s ∙ add-one (K n)) in (row_up b s p, q ∙ sym p)
        up b (inr s) = let (p, q) = one-second-less n (suc n) h (omega arith) j (s ∙ add-one (K (suc n))) in (row_down b s p, q ∙ sym p)

        go : (b : Bool) → member (suc n) (starts rows) ≡ b → Late n (suc n) (offsets_of_day rows n (suc n) j)
        go true b = up (row-begins b) (seconds-step t rows e n h b)
        go false b = let (p, q) = no_step n (suc n) h (omega arith) j (seconds-stay t rows e n h b) in (no_row (same_row b) p, q ∙ sym p)

    whole-day : (j : ℤ) (b : Bool) → Late n (cond b n (suc n)) (offsets_of_day rows n (cond b n (suc n)) j)
    whole-day j true = let (p, q) = no_step n n h h j refl in (no_row refl p, q ∙ sym p)
    whole-day j false = a-month-later j

  -- ---- before: as in the fixed table
  same-day : (n n' : ℕ) (j : ℤ) → n < suc last_month → n' < suc last_month → offsets_of_day rows n n' j ≡ offsets_of_day fixed n n' j
  unfolding offsets_of_day
  same-day n n' j h h' =
      let p = same-before-announced t rows e n h (of_int binary64 j) nought in
      let q = same-before-announced t rows e n h (of_int binary64 j) half in
      let r = same-before-announced t rows e n' h' (of_int binary64 (suc_ℤ j)) nought in
      (λ i. offsets (p i) (q i) (r i))

  -- ---- by dates
  soon : (b : Bool) (n : ℕ) → n < 23664 → cond b n (suc n) < suc last_month
  soon true n h = omega arith
  soon false n h = omega arith

  -- the leap of a day, in both orders
  data Each (y m d : ℤ) (s : CalendarDate) : Type 0 where
    late : 23664 ≤ month_number y (nat_abs m) → Late (month_number y (nat_abs m)) (month_number s.year s.month) (offsets_by rows y m d s) → Each y m d s
    early : month_number y (nat_abs m) < 23664 → offsets_by rows y m d s ≡ offsets_by fixed y m d s → Early y m d (offsets_by rows y m d s) → Each y m d s

  each-day : (y m d : ℤ) (s : CalendarDate) → next_of y m d ≡ answer s → Each y m d s
  unfolding month_number
  each-day (negsuc y) m d s p =
      let q = same-day 0 (month_number s.year s.month) (mjd_number (negsuc y) m d) (omega arith) (omega (arith, next-month-early y m d s p)) in
      early (omega arith) q (subst (Early (negsuc y) m d) (sym q) (early-date (negsuc y) m d s p (omega arith)))
  each-day (pos y) m d s p = go (ltb (month_of y (nat_abs m)) 23664) refl
    where
      go : (b : Bool) → ltb (month_of y (nat_abs m)) 23664 ≡ b → Each (pos y) m d s
      go true g =
          let l = ltb-true (month_of y (nat_abs m)) 23664 g in
          let q =
          same-day (month_of y (nat_abs m)) (month_number s.year s.month) (mjd_number (pos y) m d) (omega (arith, l))
          (subst (λ (k : ℕ). k < suc last_month) (sym (next-month-number y m d s p))
          (soon (ltb (nat_abs d) (month_length (pos y) (nat_abs m))) (month_of y (nat_abs m)) l)) in
          early l q (subst (Early (pos y) m d) (sym q) (early-date (pos y) m d s p l))
      go false g =
          let l = ltb-false (month_of y (nat_abs m)) 23664 g in
          late l (subst (λ (k : ℕ). Late (month_of y (nat_abs m)) k (offsets_of_day rows (month_of y (nat_abs m)) k (mjd_number (pos y) m d)))
          (sym (next-month-number y m d s p))
          (whole-day (month_of y (nat_abs m)) l (mjd_number (pos y) m d) (ltb (nat_abs d) (month_length (pos y) (nat_abs m)))))

  came-by : (y m d : ℤ) (o : DayOffsets) → day_offsets rows y m d ≡ answer o → (s : CalendarDate) × (next_of y m d ≡ answer s) × (o ≡ offsets_by rows y m d s)
  unfolding onward
  came-by y m d o p = go (next_of y m d) refl (sym (day-offsets-are rows y m d) ∙ p)
    where
      go : (w : Outcome CalendarDate) → next_of y m d ≡ w → onward w (λ s. answer (offsets_by rows y m d s)) ≡ answer o → (s : CalendarDate)
          × (next_of y m d ≡ answer s) × (o ≡ offsets_by rows y m d s)
      go (answer s) p q = (s, p, cc)
      go (refusal k) p q = let z : ◌≡◌ {A = ℕ} 0 1 = cc in absurd (omega arith)

  -- ---- THE LAWS: every leap by its date
  pub table-leap-on : (y m d : ℤ) (x : Float) → leap_at_end_of_day rows y m d ≡ answer x → LeapOn rows y m d x
  table-leap-on y m d x p = let (s, q, r) = leap-came rows y m d x p in go s q r (each-day y m d s q)
    where
      go : (s : CalendarDate) → next_of y m d ≡ answer s → x ≡ leap_of (offsets_by rows y m d s) → Each y m d s → LeapOn rows y m d x
      go s q r (late l w) = from_1972 l s q (subst (StepLeap rows (month_number y (nat_abs m)) (month_number s.year s.month)) (sym r) w.0)
      go s q r (early l f (no_row_yet b w)) = before_1960 b (r ∙ w.0)
      go s q r (early l f (first-row a b c w)) = last_of_1959 a b c (r ∙ w.0)
      go s q r (early l f (by-drift b w)) =
          drifting b l (subst (λ (z : Float). T (small z)) (sym r) w.0) (leap-given fixed y m d s q ∙ ap answer (sym (r ∙ ap leap_of f)))

  -- from 1972 on, by the month of the day and of the next
  pub leap-is-step : (y m d : ℤ) (next : CalendarDate) (x : Float) → 23664 ≤ month_number y (nat_abs m) → next_of y m d ≡ answer next
      → leap_at_end_of_day rows y m d ≡ answer x → StepLeap rows (month_number y (nat_abs m)) (month_number next.year next.month) x
  unfolding month_number
  leap-is-step y m d next x h n p = go (table-leap-on y m d x p)
    where
      go : LeapOn rows y m d x → StepLeap rows (month_number y (nat_abs m)) (month_number next.year next.month) x
      go (before_1960 b q) = absurd (omega arith)
      go (last_of_1959 a b c q) = absurd (not_1959 (λ i. month_number (a i) (b i)))
        where
          not_1959 : month_number y (nat_abs m) ≡ 23519 → ⊥
          not_1959 k = omega arith
      go (drifting a b s q) = absurd (omega arith)
      go (from_1972 a s q w) = let k : s ≡ next =
          cc in subst (λ (u : CalendarDate). StepLeap rows (month_number y (nat_abs m)) (month_number u.year u.month) x) k w

  -- its size
  step-size : {n n' : ℕ} {x : Float} → StepLeap rows n n' x → TableLeap x
  step-size (no_row b p) = within (subst (λ (z : Float). T (small z)) (sym p) tt)
  step-size (row_up b s p) = second p
  step-size (row_down b s p) = shorter p

  pub table-leap : (y m d : ℤ) (x : Float) → leap_at_end_of_day rows y m d ≡ answer x → TableLeap x
  table-leap y m d x p = go (table-leap-on y m d x p)
    where
      go : LeapOn rows y m d x → TableLeap x
      go (before_1960 b q) = within (subst (λ (z : Float). T (small z)) (sym q) tt)
      go (last_of_1959 a b c q) = first q
      go (drifting a b s q) = within s
      go (from_1972 a s q w) = step-size w

  pub table-both-orders : (y m d : ℤ) (o : DayOffsets) → day_offsets rows y m d ≡ answer o → leap_amount o ≡ leap_of o
  table-both-orders y m d o p = let (s, q, r) = came-by y m d o p in subst (λ (z : DayOffsets). leap_amount z ≡ leap_of z) (sym r) (go s (each-day y m d s q))
    where
      go : (s : CalendarDate) → Each y m d s → leap_amount (offsets_by rows y m d s) ≡ leap_of (offsets_by rows y m d s)
      go s (late l w) = w.1
      go s (early l f (no_row_yet b w)) = w.1 ∙ sym w.0
      go s (early l f (first-row a b c w)) = w.1 ∙ sym w.0
      go s (early l f (by-drift b w)) = w.1

  -- the leap of 1959-12-31 is that of no other day
  pub table-only-1959 : (y m d : ℤ) → leap_at_end_of_day rows y m d ≡ answer leap1959 → (y ≡ pos 1959) × (nat_abs m ≡ 12) × (nat_abs d ≡ 31)
  table-only-1959 y m d p = go (table-leap-on y m d leap1959 p)
    where
      no_step_1959 : {n n' : ℕ} → StepLeap rows n n' leap1959 → ⊥
      no_step_1959 (no_row b q) = small-not-1959 nought tt (sym q)
      no_step_1959 (row_up b s q) = one-not-1959 (sym q)
      no_step_1959 (row_down b s q) = minus-one-not-1959 (sym q)

      go : LeapOn rows y m d leap1959 → (y ≡ pos 1959) × (nat_abs m ≡ 12) × (nat_abs d ≡ 31)
      go (before_1960 b q) = absurd (small-not-1959 nought tt (sym q))
      go (last_of_1959 a b c q) = (a, b, c)
      go (drifting a b s q) = absurd (small-not-1959 leap1959 s refl)
      go (from_1972 a s q w) = absurd (no_step_1959 w)
