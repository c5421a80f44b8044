-- The next date of a date that is not refused, by its four cases; it is never refused, and its MJD is one more.
-- Assumes nothing.
use mathlib.Core.Path.{◌≡◌, refl, ap, sym, subst, ◌∙◌}
use mathlib.Core.Bool.{Bool, true, false, cond, ◌&&◌}
use Prim.Native.Nat.{ℕ, zero, suc, ◌+◌, ◌≤◌, ◌<◌}
use native.Mathlib.Omega.{arith}
use lib.Dec.{eqb}
use lib.IntN.{ℤ, pos, negsuc, nat_abs, suc_ℤ, ◌-ℤ◌, suc_ℤ-+ℤ}
use lib.Signed.{lt_z, le_z}
use mir.Syntax.{w32}
use mir.Val.{SFits}
use borrow.Author.Tests.{eq-eqb, ne_eqb, lt-ltb, le-ltb, le-leb, lt-leb, ltb-true, ltb-false}
use Rattle.refusals.specs.Outcome.{Outcome, answer, refusal, onward}
use Rattle.calendar.specs.declared.CalendarDate.{CalendarDate}
use Rattle.calendar.specs.Calendar.{date, date_at, next, lengths, leap_year, month_length}
use Rattle.calendar.specs.Refusals.{valid_date, next_of, last_date}
use Rattle.calendar.specs.DayCount.{mjd_of}
use Rattle.calendar.specs.InCalendar.{InCalendar}
use Rattle.calendar.proofs.Accepted.{Accepted, date-accepted, short, in_calendar_valid}
use Rattle.calendar.proofs.Days.{after, one-day, date-at-in-calendar}
use Rattle.calendar.proofs.Years.{next-keeps, not_before}
use Rattle.calendar.proofs.Mjd.{mjd-given, day-of-date, same_answer}

december : (b : Bool) → lengths b 12 ≡ 31
unfolding lengths
december b = refl

pub first-false : (a b : Bool) → a ≡ false → a && b ≡ false
first-false a b e = rw e

second-false : (a b c : Bool) → b ≡ false → a && (b && c) ≡ false
second-false true b c e = rw e
second-false false b c e = refl

third-false : (a b c : Bool) → c ≡ false → a && (b && c) ≡ false
third-false true true c e = e
third-false true false c e = refl
third-false false b c e = refl

-- the last year
at_end : (y : ℤ) → lt_z (pos 2147483646) y ≡ true → le_z (pos 2147483647) y ≡ true
at_end (pos n) e = le-leb 2147483647 n (omega (arith, ltb-true 2147483646 n e))
at_end (negsuc n) e = e

before-end : (y : ℤ) → lt_z (pos 2147483646) y ≡ false → le_z (pos 2147483647) y ≡ false
before-end (pos n) e = lt-leb 2147483647 n (omega (arith, ltb-false 2147483646 n e))
before-end (negsuc n) e = refl

pub year_fits : (y : ℤ) → SFits w32 y → lt_z (pos 2147483646) y ≡ false → SFits w32 (suc_ℤ y)
year_fits (pos n) f e = record { sfits = omega (arith, ltb-false 2147483646 n e) }
year_fits (negsuc zero) f e = record { sfits = omega arith }
year_fits (negsuc (suc n)) f e = record { sfits = omega (arith, f.sfits) }

pub refused-next : (y m d : ℤ) (k : ℕ) → valid_date y m d ≡ refusal k → next_of y m d ≡ refusal k
unfolding next_of onward
refused-next y m d k e = rw e

module _ (y m d : ℤ) (ok : valid_date y m d ≡ answer tt) where
  a : Accepted y m d
  a = date-accepted y m d ok

  pub by : (t : Bool) → last_date y (nat_abs m) (nat_abs d) ≡ t → next_of y m d ≡ cond t (refusal 5) (answer (next (date y (nat_abs m) (nat_abs d))))
  unfolding next_of onward
  by t e = rw (ok, e)

  pub next-day : nat_abs d < month_length y (nat_abs m) → next_of y m d ≡ answer (date y (nat_abs m) (nat_abs d + 1))
  unfolding next
  next-day h =
      by false (third-false (le_z (pos 2147483647) y) (eqb (nat_abs m) 12) (eqb (nat_abs d) 31)
      (ne_eqb (nat_abs d) 31 (λ e. omega (arith, short (leap_year y) (nat_abs m) a.m_low a.m_high))))
      ∙ rw (lt-ltb (nat_abs d) (month_length y (nat_abs m)) h)

  pub next-month : month_length y (nat_abs m) ≤ nat_abs d → nat_abs m < 12 → next_of y m d ≡ answer (date y (nat_abs m + 1) 1)
  unfolding next
  next-month h k =
      by false (second-false (le_z (pos 2147483647) y) (eqb (nat_abs m) 12) (eqb (nat_abs d) 31) (ne_eqb (nat_abs m) 12 (λ e. omega arith)))
      ∙ rw (le-ltb (nat_abs d) (month_length y (nat_abs m)) h, lt-ltb (nat_abs m) 12 k)

  pub next-year : month_length y (nat_abs m) ≤ nat_abs d → 12 ≤ nat_abs m → lt_z (pos 2147483646) y ≡ false → next_of y m d ≡ answer (date (suc_ℤ y) 1 1)
  unfolding next
  next-year h k l =
      by false (first-false (le_z (pos 2147483647) y) (eqb (nat_abs m) 12 && eqb (nat_abs d) 31) (before-end y l))
      ∙ rw (le-ltb (nat_abs d) (month_length y (nat_abs m)) h, le-ltb (nat_abs m) 12 k)

  pub no_next : month_length y (nat_abs m) ≤ nat_abs d → 12 ≤ nat_abs m → lt_z (pos 2147483646) y ≡ true → next_of y m d ≡ refusal 5
  no_next h k l = by true (rw (at_end y l, eq-eqb (nat_abs m) 12 twelve, eq-eqb (nat_abs d) 31 last))
    where
      twelve : nat_abs m ≡ 12
      twelve = omega (arith, a.m_high)

      same : month_length y (nat_abs m) ≡ lengths (leap_year y) 12
      same = ap (lengths (leap_year y)) twelve

      last : nat_abs d ≡ 31
      last = omega (arith, a.d_high, same, december (leap_year y))

-- ---- THE LAWS of the next date
answered : (o : Outcome Unit) (b : Bool) (t u : CalendarDate) → onward o (λ _. cond b (refusal 5) (answer u)) ≡ answer t → (o ≡ answer tt) × (t ≡ u)
unfolding onward
answered (answer x) true t u e = let z : ◌≡◌ {A = ℕ} 0 1 = cc in absurd (omega arith)
answered (answer x) false t u e = (refl, cc)
answered (refusal k) b t u e = let z : ◌≡◌ {A = ℕ} 0 1 = cc in absurd (omega arith)

-- a date with a next one is not refused, and the next is that of the calendar
pub next-is : (y m d : ℤ) (t : CalendarDate) → next_of y m d ≡ answer t → (valid_date y m d ≡ answer tt) × (t ≡ next (date y (nat_abs m) (nat_abs d)))
unfolding next_of
next-is y m d t e = answered (valid_date y m d) (last_date y (nat_abs m) (nat_abs d)) t (next (date y (nat_abs m) (nat_abs d))) e

module _ (y m d : ℤ) (t : CalendarDate) (h : next_of y m d ≡ answer t) where
  at_next : date_at (suc (day-of-date y m d (next-is y m d t h).0).0) ≡ t
  at_next =
      let z = next-is y m d t h in
      let k = day-of-date y m d z.0 in
      after k.0 ∙ ap next k.2 ∙ sym z.1

  -- the next date has a month 1 to 12 and a day of that month
  pub next-in-calendar : InCalendar t
  next-in-calendar = subst (λ (x : CalendarDate). InCalendar x) at_next (date-at-in-calendar _)

  -- the next date is never refused
  pub next-accepted : valid_date t.year (pos t.month) (pos t.day) ≡ answer tt
  next-accepted =
      let z = next-is y m d t h in
      in_calendar_valid t next-in-calendar
      (subst (λ (x : CalendarDate). lt_z x.year (negsuc 4798) ≡ false) (sym z.1)
      (next-keeps (λ x. lt_z x (negsuc 4798) ≡ false) (not_before 4798) (date y (nat_abs m) (nat_abs d)) (date-accepted y m d z.0).year))

  -- its MJD is one more
  pub next-mjd : (n : ℤ) → mjd_of y m d ≡ answer n → mjd_of t.year (pos t.month) (pos t.day) ≡ answer (suc_ℤ n)
  next-mjd n e =
      let z = next-is y m d t h in
      let k = day-of-date y m d z.0 in
      let j = day-of-date t.year (pos t.month) (pos t.day) next-accepted in
      let s : j.0 ≡ suc k.0 = one-day j.0 (suc k.0) (j.2 ∙ sym at_next) in
      mjd-given t.year (pos t.month) (pos t.day) next-accepted
      ∙ ap answer
      (j.1
      ∙ ap (λ (i : ℕ). pos i -ℤ pos 2578142) s
      ∙ suc_ℤ-+ℤ (pos k.0) (negsuc 2578141)
      ∙ ap suc_ℤ (sym k.1 ∙ same_answer (sym (mjd-given y m d z.0) ∙ e)))
