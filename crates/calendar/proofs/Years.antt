-- The years of day numbers: they never fall, so that the year is before -4799 exactly at the numbers before -31738; and every date of `gregorian_date` has its
-- year in -4900 to 2733194, its month in 1 to 12 and its day in 1 to 31.
-- Assumes nothing.
use mathlib.Core.Path.{◌≡◌, refl, ap, sym, subst, ◌∙◌}
use mathlib.Core.Bool.{Bool, true, false, cond, true≢false, false≢true}
use mathlib.Core.Logic.{◌⊎◌, inl, inr}
use Prim.Native.Nat.{ℕ, zero, suc, ◌+◌, ◌-◌, ◌≤◌}
use native.Mathlib.Omega.{arith}
use lib.Dec.{ltb}
use lib.IntN.{ℤ, pos, negsuc, nat_abs, suc_ℤ, ◌+ℤ◌}
use lib.Signed.{lt_z, le_z}
use borrow.Author.Tests.{lt-ltb, le-ltb, lt-leb, ltb-true, ltb-false}
use Rattle.refusals.specs.Outcome.{Outcome, answer, refusal}
use Rattle.calendar.specs.declared.CalendarDate.{CalendarDate}
use Rattle.calendar.specs.Calendar.{date, date_at, date_of, next, leap_year, leap_size, lengths, month_length, Counted}
use Rattle.calendar.specs.Refusals.{valid_date}
use Rattle.calendar.specs.Gregorian.{gregorian_date}
use Rattle.calendar.proofs.Signs.{raised, own-size, sub_at}
use Rattle.calendar.proofs.March.{at, days_before, days_before_year, march_length}
use Rattle.calendar.proofs.InStep.{date-with-count}
use Rattle.calendar.proofs.Days.{after, date-at-in-calendar}
use Rattle.calendar.specs.InCalendar.{InCalendar}
use Rattle.calendar.proofs.Accepted.{in_calendar_valid, short, year-refused}

-- ---- what holds of a year and then of the one after it, holds of the year of every later day
module _ (P : ℤ → Type 0) (up : (z : ℤ) → P z → P (suc_ℤ z)) where
  pub next-keeps : (t : CalendarDate) → P t.year → P (next t).year
  unfolding next
  next-keeps t h = go (ltb t.day (month_length t.year t.month)) (ltb t.month 12)
    where
      go : (a b : Bool) → P (cond a (date t.year t.month (t.day + 1)) (cond b (date t.year (t.month + 1) 1) (date (suc_ℤ t.year) 1 1))).year
      go true b = h
      go false true = h
      go false false = up t.year h

  later-keeps : (n k : ℕ) → P (date_at k).year → P (date_at (k + n)).year
  later-keeps zero k h = subst (λ (j : ℕ). P (date_at j).year) (none k) h
    where
      none : (x : ℕ) → x ≡ x + 0
      none x = omega arith
  later-keeps (suc n) k h =
      subst (λ (j : ℕ). P (date_at j).year) (more k n)
      (subst (λ (t : CalendarDate). P t.year) (sym (after (k + n))) (next-keeps (date_at (k + n)) (later-keeps n k h)))
    where
      more : (x y : ℕ) → suc (x + y) ≡ x + suc y
      more x y = omega arith

  pub years_later : (j k : ℕ) → j ≤ k → P (date_at j).year → P (date_at k).year
  years_later j k l h = subst (λ (i : ℕ). P (date_at i).year) (sum j k l) (later-keeps (k - j) j h)
    where
      sum : (x y : ℕ) → x ≤ y → x + (y - x) ≡ y
      sum x y m = omega arith

-- a year that is not before -(p + 1), and one after q, stay so
pub not_before : (p : ℕ) (z : ℤ) → lt_z z (negsuc p) ≡ false → lt_z (suc_ℤ z) (negsuc p) ≡ false
not_before p (pos n) e = refl
not_before p (negsuc zero) e = refl
not_before p (negsuc (suc n)) e = le-ltb p n (omega (arith, ltb-false p (suc n) e))

past : (q : ℕ) (z : ℤ) → lt_z (pos q) z ≡ true → lt_z (pos q) (suc_ℤ z) ≡ true
past q (pos n) e = lt-ltb q (suc n) (omega (arith, ltb-true q n e))
past q (negsuc n) e = absurd (false≢true e)

-- ---- the three days whose dates decide
abbrev Case : ℕ → ℕ → ℕ → ℕ → Type 0
Case k y m d = (1 ≤ m) × (m ≤ 12) × (1 ≤ d) × (d ≤ march_length y m) × (days_before y m d ≡ k)

seen : (k y m d : ℕ) → Case k y m d → date_at k ≡ Rattle.calendar.proofs.InStep.from_march (at y m d)
seen k y m d h = date-with-count (at y m d) k (record { m_low = h.0; m_high = h.1; d_low = h.2; d_high = h.3 }) h.4

pub lowest_date : date_at 109572 ≡ date (negsuc 4899) 3 1
unfolding leap_size lengths march_length days_before days_before_year
lowest_date = seen 109572 300 1 1 (omega arith, omega arith, omega arith, omega arith, refl)

last-refused : date_at 146402 ≡ date (negsuc 4799) 12 31
unfolding leap_size lengths march_length days_before days_before_year
last-refused = seen 146402 400 10 31 (omega arith, omega arith, omega arith, omega arith, refl)

first-valid : date_at 146403 ≡ date (negsuc 4798) 1 1
unfolding leap_size lengths march_length days_before days_before_year
first-valid = seen 146403 400 11 1 (omega arith, omega arith, omega arith, omega arith, refl)

highest_date : date_at 1000178141 ≡ date (pos 2733194) 11 27
unfolding leap_size lengths march_length days_before days_before_year
highest_date = seen 1000178141 2738394 9 27 (omega arith, omega arith, omega arith, omega arith, refl)

-- ---- the years by the count of days
year-from : (k : ℕ) → 146403 ≤ k → lt_z (date_at k).year (negsuc 4798) ≡ false
year-from k h = years_later (λ z. lt_z z (negsuc 4798) ≡ false) (not_before 4798) 146403 k h (ap (λ (t : CalendarDate). lt_z t.year (negsuc 4798)) first-valid)

year-to : (k : ℕ) → k ≤ 146402 → lt_z (date_at k).year (negsuc 4798) ≡ true
year-to k h = go (lt_z (date_at k).year (negsuc 4798)) refl
  where
    go : (b : Bool) → lt_z (date_at k).year (negsuc 4798) ≡ b → lt_z (date_at k).year (negsuc 4798) ≡ true
    go true e = e
    go false e =
        absurd
        (true≢false (sym (ap (λ (t : CalendarDate). lt_z t.year (negsuc 4798)) last-refused)
        ∙ years_later (λ z. lt_z z (negsuc 4798) ≡ false) (not_before 4798) k 146402 h e))

low-year : (k : ℕ) → 109572 ≤ k → lt_z (date_at k).year (negsuc 4899) ≡ false
low-year k h = years_later (λ z. lt_z z (negsuc 4899) ≡ false) (not_before 4899) 109572 k h (ap (λ (t : CalendarDate). lt_z t.year (negsuc 4899)) lowest_date)

high-year : (k : ℕ) → k ≤ 1000178141 → lt_z (pos 2733194) (date_at k).year ≡ false
high-year k h = go (lt_z (pos 2733194) (date_at k).year) refl
  where
    go : (b : Bool) → lt_z (pos 2733194) (date_at k).year ≡ b → lt_z (pos 2733194) (date_at k).year ≡ false
    go false e = e
    go true e =
        absurd
        (true≢false (sym (years_later (λ z. lt_z (pos 2733194) z ≡ true) (past 2733194) k 1000178141 h e)
        ∙ ap (λ (t : CalendarDate). lt_z (pos 2733194) t.year) highest_date))

-- ---- the count of a day number, from a bound on either side
count-from : (n : ℤ) (p : ℕ) → suc p ≤ 178141 → lt_z n (negsuc p) ≡ false → 178141 - suc p ≤ nat_abs (n +ℤ pos 178141)
count-from n p l h =
    let r = raised n p 178141 (nat_abs n) l h (own-size n) in
    omega (arith, r.low, ap nat_abs r.is)

count-to : (n : ℤ) (p q : ℕ) → suc p ≤ 178141 → lt_z n (negsuc p) ≡ false → lt_z (pos q) n ≡ false → nat_abs (n +ℤ pos 178141) ≤ q + 178141
count-to n p q l h g =
    let r = raised n p 178141 q l h g in
    omega (arith, r.high, ap nat_abs r.is)

-- a number before -31738, and not before -178141
count-before : (n : ℤ) → Counted n → lt_z n (negsuc 31737) ≡ true → nat_abs (n +ℤ pos 178141) ≤ 146402
count-before (pos a) c e = absurd (true≢false (sym e))
count-before (negsuc a) c e =
    let h = ltb-true 31737 a e in
    let s = ap nat_abs (sub_at 178141 (suc a) (omega (arith, ltb-false 178140 a c))) in
    omega (arith, h, s)

-- THE YEAR IS BEFORE -4799 exactly at the day numbers before -31738
pub year-before-first : (n : ℤ) → Counted n → lt_z (date_of n).year (negsuc 4798) ≡ lt_z n (negsuc 31737)
unfolding date_of
year-before-first n c = go (lt_z n (negsuc 31737)) refl
  where
    go : (b : Bool) → lt_z n (negsuc 31737) ≡ b → lt_z (date_at (nat_abs (n +ℤ pos 178141))).year (negsuc 4798) ≡ b
    go true e = year-to (nat_abs (n +ℤ pos 178141)) (count-before n c e)
    go false e = year-from (nat_abs (n +ℤ pos 178141)) (count-from n 31737 (omega arith) e)

-- ---- what `gregorian_date` gives: -4900-02-30, or the date of a day that its range has
each-date : (P : CalendarDate → Type 0) → P (date (negsuc 4899) 2 30) → ((k : ℕ) → 109572 ≤ k → k ≤ 1000178141 → P (date_at k)) → (n : ℤ) → P (gregorian_date n)
unfolding gregorian_date date_of
each-date P low inside n = go (lt_z n (negsuc 68568)) refl (lt_z (pos 1000000000) n) refl
  where
    go : (a : Bool) → lt_z n (negsuc 68568) ≡ a → (b : Bool) → lt_z (pos 1000000000) n ≡ b
        → P (cond a (date (negsuc 4899) 2 30) (cond b (date_at 1000178141) (date_at (nat_abs (n +ℤ pos 178141)))))
    go true p b q = low
    go false p true q = inside 1000178141 (omega arith) (omega arith)
    go false p false q = inside (nat_abs (n +ℤ pos 178141)) (count-from n 68568 (omega arith) p) (count-to n 68568 1000000000 (omega arith) p q)

-- year -4900 to 2733194, month 1 to 12, day 1 to 31
pub record DateInRange (t : CalendarDate) : Type 0 where
  pub year_low : lt_z t.year (negsuc 4899) ≡ false
  pub year_high : lt_z (pos 2733194) t.year ≡ false
  pub month-low : 1 ≤ t.month
  pub month-high : t.month ≤ 12
  pub day-low : 1 ≤ t.day
  pub day-high : t.day ≤ 31

-- THE RANGE of the date of any day number
pub gregorian_in_range : (n : ℤ) → DateInRange (gregorian_date n)
gregorian_in_range = each-date (λ t. DateInRange t)
    (record { year_low = refl; year_high = refl; month-low = omega arith; month-high = omega arith; day-low = omega arith; day-high = omega arith })
    (λ k l h.
    let g = date-at-in-calendar k in
    record {
      year_low = low-year k l;
      year_high = high-year k h;
      month-low = g.m_low;
      month-high = g.m_high;
      day-low = g.d_low;
      day-high = omega (arith, g.d_high, short (leap_year (date_at k).year) (date_at k).month g.m_low g.m_high);
    })

abbrev pub valid_of : CalendarDate → Outcome Unit
valid_of t = valid_date t.year (pos t.month) (pos t.day)

lower : (n : ℤ) → lt_z n (negsuc 68568) ≡ true → lt_z n (negsuc 31737) ≡ true
lower (pos a) e = e
lower (negsuc a) e = lt-ltb 31737 a (omega (arith, ltb-true 68568 a e))

top : (n : ℤ) → lt_z (pos 1000000000) n ≡ true → lt_z n (negsuc 31737) ≡ false
top (pos a) e = refl
top (negsuc a) e = absurd (true≢false (sym e))

pub from-lower : (n : ℤ) → lt_z n (negsuc 31737) ≡ false → lt_z n (negsuc 68568) ≡ false
from-lower (pos a) e = refl
from-lower (negsuc a) e = le-ltb 68568 a (omega (arith, ltb-false 31737 a e))

pub counted-from : (n : ℤ) → lt_z n (negsuc 68568) ≡ false → Counted n
counted-from (pos a) e = refl
counted-from (negsuc a) e = le-ltb 178140 a (omega (arith, ltb-false 68568 a e))

pub date-of-in-calendar : (n : ℤ) → InCalendar (date_of n)
unfolding date_of
date-of-in-calendar n = date-at-in-calendar (nat_abs (n +ℤ pos 178141))

-- the last date of 32 bits is past every year of the calendar
pub before_last : (y : ℤ) → lt_z (pos 2733194) y ≡ false → le_z (pos 2147483647) y ≡ false
before_last (pos n) e = lt-leb 2147483647 n (omega (arith, ltb-false 2733194 n e))
before_last (negsuc n) e = refl

-- THE REFUSAL of the date of any day number: 1 before day -31738, and none from there on
pub gregorian_valid : (n : ℤ) → valid_of (gregorian_date n) ≡ cond (lt_z n (negsuc 31737)) (refusal 1) (answer tt)
unfolding gregorian_date
gregorian_valid n = go (lt_z n (negsuc 68568)) refl (lt_z (pos 1000000000) n) refl
  where
    valid : (x : ℤ) → Counted x → (b : Bool) → lt_z x (negsuc 31737) ≡ b → valid_of (date_of x) ≡ cond b (refusal 1) (answer tt)
    valid x c true e = sym (year-refused (date_of x).year (pos (date_of x).month) (pos (date_of x).day) (year-before-first x c ∙ e))
    valid x c false e = in_calendar_valid (date_of x) (date-of-in-calendar x) (year-before-first x c ∙ e)

    go : (a : Bool) → lt_z n (negsuc 68568) ≡ a → (b : Bool) → lt_z (pos 1000000000) n ≡ b
        → valid_of (cond a (date (negsuc 4899) 2 30) (cond b (date_of (pos 1000000000)) (date_of n))) ≡ cond (lt_z n (negsuc 31737)) (refusal 1) (answer tt)
    go true p b q = sym (year-refused (negsuc 4899) (pos 2) (pos 30) refl) ∙ ap (λ (t : Bool). cond t (refusal 1) (answer tt)) (sym (lower n p))
    go false p true q = valid (pos 1000000000) refl false refl ∙ ap (λ (t : Bool). cond t (refusal 1) (answer tt)) (sym (top n q))
    go false p false q = valid n (counted-from n p) (lt_z n (negsuc 31737)) refl

pub gregorian_refusal : (n : ℤ) → (valid_of (gregorian_date n) ≡ answer tt) ⊎ (valid_of (gregorian_date n) ≡ refusal 1)
gregorian_refusal n = go (lt_z n (negsuc 31737)) (gregorian_valid n)
  where
    go : (b : Bool) → valid_of (gregorian_date n) ≡ cond b (refusal 1) (answer tt) → (valid_of (gregorian_date n) ≡ answer tt)
        ⊎ (valid_of (gregorian_date n) ≡ refusal 1)
    go true e = inr e
    go false e = inl e
