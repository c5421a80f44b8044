-- Document 01's sentence on day numbers: day 2451545 is 2000-01-01, each number one more is the next date, and no two numbers share a date. Every date of a day
-- number has a month 1 to 12 and a day of that month.
-- Assumes nothing.
use mathlib.Core.Path.{◌≡◌, refl, ap, sym, subst, ◌∙◌}
use mathlib.Core.Bool.{Bool, true, false, cond}
use Prim.Native.Nat.{ℕ, suc, ◌+◌, ◌-◌, ◌≤◌}
use native.Mathlib.Omega.{arith}
use lib.Dec.{ltb, leb}
use lib.IntN.{ℤ, pos, negsuc, nat_abs, suc_ℤ, ◌+ℤ◌, ◌-ℤ◌, -ℤ-+ℤ_cancel, +ℤ-neg_ℤ_cancel, suc_ℤ-+ℤ}
use lib.Signed.{lt_z}
use borrow.Author.Tests.{le-ltb}
use Rattle.calendar.specs.declared.CalendarDate.{CalendarDate}
use Rattle.calendar.specs.Calendar.{date, date_at, date_of, next, lengths, month_length, Counted}
use Rattle.calendar.proofs.Months.{months}
use Rattle.calendar.proofs.Signs.{own-size, raised}
use Rattle.calendar.proofs.March.{MarchDate, at, count, march_at, march-at, days_before, days_before_year, march_length, length-positive}
use Rattle.calendar.specs.InCalendar.{InCalendar}
use Rattle.calendar.proofs.InStep.{from_march, year_of, in_step, date-with-count, leap-same}

-- its number of days after -5200-03-01
pub days-after : (n : ℤ) → Counted n → n +ℤ pos 178141 ≡ pos (nat_abs (n +ℤ pos 178141))
days-after n h =
    let r = raised n 178140 178141 (nat_abs n) (omega arith) h (own-size n) in
    r.is ∙ ap pos (sym (ap nat_abs r.is))

pub from-days : (n : ℤ) → Counted n → pos (nat_abs (n +ℤ pos 178141)) -ℤ pos 178141 ≡ n
from-days n h = ap (λ (z : ℤ). z -ℤ pos 178141) (sym (days-after n h)) ∙ +ℤ-neg_ℤ_cancel n (pos 178141)

-- the day number k days after -5200-03-01
abbrev pub number : ℕ → ℤ
number k = pos k -ℤ pos 178141

pub counted : (k : ℕ) → Counted (number k)
counted k = go (ltb k 178141)
  where
    go : (t : Bool) → lt_z (cond t (negsuc (178141 - suc k)) (pos (k - 178141))) (negsuc 178140) ≡ false
    go true = le-ltb 178140 (178141 - suc k) (omega arith)
    go false = refl

pub number-next : (k : ℕ) → number (suc k) ≡ suc_ℤ (number k)
number-next k = suc_ℤ-+ℤ (pos k) (negsuc 178140)

-- ---- the day and the step
year-2000 : days_before 7199 11 1 ≡ 2451545 + 178141
unfolding days_before days_before_year
year-2000 = refl

pub day-2451545-is-2000-01-01 : date_of (pos 2451545) ≡ date (pos 2000) 1 1
unfolding date_of
day-2451545-is-2000-01-01 =
    date-with-count (at 7199 11 1) (2451545 + 178141)
    (record { m_low = omega arith; m_high = omega arith; d_low = omega arith; d_high = length-positive 7199 11 (omega arith) (omega arith) }) year-2000

pub after : (k : ℕ) → date_at (suc k) ≡ next (date_at k)
unfolding date_at
after k = refl

pub next-number-is-next-date : (n : ℤ) → Counted n → date_of (suc_ℤ n) ≡ next (date_of n)
unfolding date_of
next-number-is-next-date n h =
    let e = days-after n h in
    ap (λ (z : ℤ). date_at (nat_abs z)) (suc_ℤ-+ℤ n (pos 178141) ∙ ap suc_ℤ e) ∙ after (nat_abs (n +ℤ pos 178141))

-- ---- no two numbers share a date: the March date can be read back
back : CalendarDate → MarchDate
back t =
    cond (leb t.month 2)
    (at (nat_abs (t.year +ℤ pos 5200) - 1) (t.month + 10) t.day)
    (at (nat_abs (t.year +ℤ pos 5200)) (t.month - 2) t.day)

year-back : (y : ℕ) → nat_abs (year_of y +ℤ pos 5200) ≡ y
year-back y = ap nat_abs (-ℤ-+ℤ_cancel (pos y) (pos 5200))

less_one : (y : ℕ) → y + 1 - 1 ≡ y
less_one y = omega arith

back-civil : (y d m : ℕ) → 1 ≤ m → m ≤ 12 → back (from_march (at y m d)) ≡ at y m d
unfolding back
back-civil y d =
    months (λ m. back (from_march (at y m d)) ≡ at y m d)
    (late 1) (late 2) (late 3) (late 4) (late 5) (late 6) (late 7) (late 8) (late 9) (late 10) (early 11) (early 12)
  where
    late : (m : ℕ) → at (nat_abs (year_of y +ℤ pos 5200)) m d ≡ at y m d
    late m = ap (λ (n : ℕ). at n m d) (year-back y)

    early : (m : ℕ) → at (nat_abs (year_of (y + 1) +ℤ pos 5200) - 1) m d ≡ at y m d
    early m = ap (λ (n : ℕ). at (n - 1) m d) (year-back (y + 1)) ∙ ap (λ (n : ℕ). at n m d) (less_one y)

back-date : (k : ℕ) → back (date_at k) ≡ march_at k
back-date k = ap back (in_step k) ∙ back-civil (march_at k).y (march_at k).d (march_at k).m (march-at k).0.m_low (march-at k).0.m_high

pub one-day : (j k : ℕ) → date_at j ≡ date_at k → j ≡ k
one-day j k e = sym (march-at j).1 ∙ ap (λ (t : MarchDate). count t) (sym (back-date j) ∙ ap back e ∙ back-date k) ∙ (march-at k).1

pub one-number-per-date : (n n' : ℤ) → Counted n → Counted n' → date_of n ≡ date_of n' → n ≡ n'
unfolding date_of
one-number-per-date n n' h h' e =
    sym (from-days n h)
    ∙ ap (λ (k : ℕ). pos k -ℤ pos 178141) (one-day (nat_abs (n +ℤ pos 178141)) (nat_abs (n' +ℤ pos 178141)) e)
    ∙ from-days n' h'

-- ---- the date of every day number is one of the calendar
make : (z : ℤ) (m d : ℕ) → 1 ≤ m → m ≤ 12 → 1 ≤ d → d ≤ month_length z m → InCalendar (date z m d)
make z m d a b c e = record { m_low = a; m_high = b; d_low = c; d_high = e }

civil_in_calendar : (y d : ℕ) → 1 ≤ d → (m : ℕ) → 1 ≤ m → m ≤ 12 → d ≤ march_length y m → InCalendar (from_march (at y m d))
unfolding march_length lengths
civil_in_calendar y d l =
    months (λ m. d ≤ march_length y m → InCalendar (from_march (at y m d)))
    (late 3 (omega arith) (omega arith)) (late 4 (omega arith) (omega arith)) (late 5 (omega arith) (omega arith))
    (late 6 (omega arith) (omega arith)) (late 7 (omega arith) (omega arith)) (late 8 (omega arith) (omega arith))
    (late 9 (omega arith) (omega arith)) (late 10 (omega arith) (omega arith)) (late 11 (omega arith) (omega arith))
    (late 12 (omega arith) (omega arith))
    (λ h. make (year_of (y + 1)) 1 d (omega arith) (omega arith) l h)
    (λ h. make (year_of (y + 1)) 2 d (omega arith) (omega arith) l (subst (λ (b : Bool). d ≤ lengths b 2) (sym (leap-same (y + 1))) h))
  where
    late : (m : ℕ) → 1 ≤ m → m ≤ 12 → d ≤ month_length (year_of y) m → InCalendar (date (year_of y) m d)
    late m a b h = make (year_of y) m d a b l h

pub date-at-in-calendar : (k : ℕ) → InCalendar (date_at k)
date-at-in-calendar k =
    let v = (march-at k).0 in
    subst (λ (t : CalendarDate). InCalendar t) (sym (in_step k))
    (civil_in_calendar (march_at k).y (march_at k).d v.d_low (march_at k).m v.m_low v.m_high v.d_high)
