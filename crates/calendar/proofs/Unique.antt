-- Document 01's sentence on day numbers has one reading: dates of the calendar, one for each day number, 2000-01-01 at 2451545, each the next of the one
-- before. Only `date_of` is so.
-- Assumes nothing.
use mathlib.Core.Path.{◌≡◌, refl, ap, sym, subst, ◌∙◌}
use mathlib.Core.Bool.{Bool, true, false, cond}
use Prim.Native.Nat.{ℕ, zero, suc, ◌+◌}
use native.Mathlib.Nat.{zero-add, suc-add}
use native.Mathlib.Omega.{arith}
use lib.Dec.{ltb}
use lib.IntN.{ℤ, pos, nat_abs, suc_ℤ, pred_ℤ, pred-suc, ◌+ℤ◌}
use borrow.Author.Tests.{ltb-false}
use Rattle.calendar.specs.declared.CalendarDate.{CalendarDate}
use Rattle.calendar.specs.Calendar.{date, date_at, date_of, next, month_length, Counted}
use Rattle.calendar.specs.InCalendar.{InCalendar}
use Rattle.calendar.proofs.Days.{number, counted, number-next, from-days, after, day-2451545-is-2000-01-01, date-at-in-calendar}

-- how a date has its next one
data Steps (t u : CalendarDate) : Type 0 where
  by_day : u.year ≡ t.year → u.month ≡ t.month → u.day ≡ t.day + 1 → Steps t u
  by_month : u.year ≡ t.year → u.month ≡ t.month + 1 → u.day ≡ 1 → t.day ≡ month_length t.year t.month → Steps t u
  by-year : u.year ≡ suc_ℤ t.year → u.month ≡ 1 → u.day ≡ 1 → t.month ≡ 12 → t.day ≡ month_length t.year t.month → Steps t u

steps : (t : CalendarDate) → InCalendar t → Steps t (next t)
unfolding next
steps t g = go (ltb t.day (month_length t.year t.month)) refl (ltb t.month 12) refl
  where
    go : (a : Bool) → ltb t.day (month_length t.year t.month) ≡ a → (b : Bool) → ltb t.month 12 ≡ b
        → Steps t (cond a (date t.year t.month (t.day + 1)) (cond b (date t.year (t.month + 1) 1) (date (suc_ℤ t.year) 1 1)))
    go true p b q = by_day refl refl refl
    go false p true q = by_month refl refl refl (omega (arith, ltb-false t.day (month_length t.year t.month) p, g.d_high))
    go false p false q =
        by-year refl refl refl (omega (arith, ltb-false t.month 12 q, g.m_high))
        (omega (arith, ltb-false t.day (month_length t.year t.month) p, g.d_high))

same-date : (t u : CalendarDate) → t.year ≡ u.year → t.month ≡ u.month → t.day ≡ u.day → t ≡ u
same-date t u p q r = λ i. date (p i) (q i) (r i)

lens : (y z : ℤ) (m n : ℕ) → y ≡ z → m ≡ n → month_length y m ≡ month_length z n
lens y z m n p q = ap (λ (x : ℤ). month_length x m) p ∙ ap (λ (k : ℕ). month_length z k) q

one-before : (t u w : CalendarDate) → InCalendar t → InCalendar u → Steps t w → Steps u w → t ≡ u
one-before t u w g h (by_day a b c) (by_day a' b' c') = same-date t u (sym a ∙ a') (sym b ∙ b') (omega arith)
one-before t u w g h (by_day a b c) (by_month a' b' c' d') = absurd (omega (arith, g.d_low))
one-before t u w g h (by_day a b c) (by-year a' b' c' d' e') = absurd (omega (arith, g.d_low))
one-before t u w g h (by_month a b c d) (by_day a' b' c') = absurd (omega (arith, h.d_low))
one-before t u w g h (by_month a b c d) (by_month a' b' c' d') =
    let y : t.year ≡ u.year = sym a ∙ a' in
    let m : t.month ≡ u.month = omega arith in
    same-date t u y m (d ∙ lens _ _ _ _ y m ∙ sym d')
one-before t u w g h (by_month a b c d) (by-year a' b' c' d' e') = absurd (omega (arith, g.m_low))
one-before t u w g h (by-year a b c d e) (by_day a' b' c') = absurd (omega (arith, h.d_low))
one-before t u w g h (by-year a b c d e) (by_month a' b' c' d') = absurd (omega (arith, h.m_low))
one-before t u w g h (by-year a b c d e) (by-year a' b' c' d' e') =
    let y : t.year ≡ u.year = sym (pred-suc t.year) ∙ ap pred_ℤ (sym a ∙ a') ∙ pred-suc u.year in
    let m : t.month ≡ u.month = d ∙ sym d' in
    same-date t u y m (e ∙ lens _ _ _ _ y m ∙ sym e')

module _ (f : ℕ → CalendarDate) (good : (k : ℕ) → InCalendar (f k)) (step : (k : ℕ) → f (suc k) ≡ next (f k)) where
  up : (n a : ℕ) → f a ≡ date_at a → f (n + a) ≡ date_at (n + a)
  up zero a e = subst (λ (k : ℕ). f k ≡ date_at k) (sym (zero-add a)) e
  up (suc n) a e = subst (λ (k : ℕ). f k ≡ date_at k) (sym (suc-add n a)) (step (n + a) ∙ ap next (up n a e) ∙ sym (after (n + a)))

  down : (n a : ℕ) → f (n + a) ≡ date_at (n + a) → f a ≡ date_at a
  down zero a e = subst (λ (k : ℕ). f k ≡ date_at k) (zero-add a) e
  down (suc n) a e = down n a (below (n + a) (subst (λ (k : ℕ). f k ≡ date_at k) (suc-add n a) e))
    where
      below : (k : ℕ) → f (suc k) ≡ date_at (suc k) → f k ≡ date_at k
      below k p = one-before (f k) (date_at k) (next (date_at k)) (good k) (date-at-in-calendar k)
          (subst (λ (w : CalendarDate). Steps (f k) w) (sym (step k) ∙ p ∙ after k) (steps (f k) (good k)))
          (steps (date_at k) (date-at-in-calendar k))

  same_from : (a : ℕ) → f a ≡ date_at a → (k : ℕ) → f k ≡ date_at k
  same_from a e k = down a k (subst (λ (j : ℕ). f j ≡ date_at j) (swap k a) (up k a e))
    where
      swap : (x y : ℕ) → x + y ≡ y + x
      swap x y = omega arith

module _ (f : ℤ → CalendarDate) (in-calendar : (n : ℤ) → Counted n → InCalendar (f n)) (step : (n : ℤ) → Counted n → f (suc_ℤ n) ≡ next (f n)) where
  pub the_calendar : f (pos 2451545) ≡ date (pos 2000) 1 1 → (n : ℤ) → Counted n → f n ≡ date_of n
  unfolding date_of
  the_calendar e n c =
      ap f (sym (from-days n c))
      ∙ same_from (λ k. f (number k)) (λ k. in-calendar (number k) (counted k))
      (λ k. ap f (number-next k) ∙ step (number k) (counted k)) 2629686 (e ∙ sym day-2451545-is-2000-01-01) (nat_abs (n +ℤ pos 178141))
