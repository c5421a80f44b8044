-- What a date that is not refused is: year from -4799, month 1 to 12, day in its month. And what is refused, test by test.
-- Assumes nothing.
use mathlib.Core.Path.{◌≡◌, refl, ap, sym, subst, ◌∙◌}
use mathlib.Core.Bool.{Bool, true, false, cond, ◌||◌}
use Prim.Native.Nat.{ℕ, zero, suc, ◌≤◌, ◌<◌}
use native.Mathlib.Omega.{arith}
use lib.Dec.{ltb}
use lib.IntN.{ℤ, pos, negsuc, nat_abs}
use lib.Signed.{lt_z}
use mir.Syntax.{w32}
use mir.Val.{SFits, to_z, of_z}
use mir.Facts.{to_z-of_z}
use borrow.Author.Tests.{ltb-true, ltb-false, lt-ltb, le-ltb}
use Rattle.std.specs.Prelude.{Result, Ok, Err}
use Rattle.refusals.specs.declared.Refusal.{Refusal}
use Rattle.refusals.specs.Refusal.{refusal_number}
use Rattle.refusals.specs.Outcome.{Outcome, answer, refusal, outcome}
use Rattle.calendar.specs.Calendar.{leap_year, lengths, month_length, days_in_month}
use Rattle.calendar.specs.Refusals.{valid_date}
use Rattle.calendar.specs.InCalendar.{InCalendar}
use Rattle.calendar.specs.declared.CalendarDate.{CalendarDate}
use Rattle.calendar.proofs.Months.{numbers, months}
use Rattle.calendar.proofs.Signs.{at_least_one, read-date}

-- ---- the days of a month
pub month-days : (y m : ℤ) → lt_z m (pos 1) ≡ false → days_in_month y m ≡ month_length y (nat_abs m)
unfolding days_in_month
month-days y (pos m) e = refl
month-days y (negsuc m) e = let z : ◌≡◌ {A = ℕ} 0 1 = cc in absurd (omega arith)

pub short : (b : Bool) (m : ℕ) → 1 ≤ m → m ≤ 12 → lengths b m ≤ 31
unfolding lengths
short true = months (λ m. lengths true m ≤ 31) (omega arith) (omega arith) (omega arith) (omega arith) (omega arith) (omega arith) (omega arith) (omega arith)
    (omega arith) (omega arith) (omega arith) (omega arith)
short false = months (λ m. lengths false m ≤ 31) (omega arith) (omega arith) (omega arith) (omega arith) (omega arith) (omega arith) (omega arith)
    (omega arith) (omega arith) (omega arith) (omega arith) (omega arith)

pub below_one : (y m : ℤ) → lt_z m (pos 1) ≡ true → 0 ≡ days_in_month y m
unfolding days_in_month lengths
below_one y (pos zero) e = refl
below_one y (pos (suc n)) e = absurd (omega (arith, ltb-true (suc n) 1 e))
below_one y (negsuc n) e = refl

-- what days_in_month is found by
pub ruleset days_found = (below_one, month-days)

-- a number is a month exactly if it has days
has-days : (b : Bool) (m : ℕ) → 1 ≤ m → m ≤ 12 → 1 ≤ lengths b m
unfolding lengths
has-days true = months (λ m. 1 ≤ lengths true m) (omega arith) (omega arith) (omega arith) (omega arith) (omega arith) (omega arith) (omega arith)
    (omega arith) (omega arith) (omega arith) (omega arith) (omega arith)
has-days false = months (λ m. 1 ≤ lengths false m) (omega arith) (omega arith) (omega arith) (omega arith) (omega arith) (omega arith) (omega arith)
    (omega arith) (omega arith) (omega arith) (omega arith) (omega arith)

pub no_month : (y m : ℤ) → days_in_month y m ≡ 0 → lt_z m (pos 1) || lt_z (pos 12) m ≡ true
unfolding days_in_month
no_month y (negsuc m) e = refl
no_month y (pos m) e = go (ltb m 1) refl (ltb 12 m) refl
  where
    go : (s : Bool) → ltb m 1 ≡ s → (t : Bool) → ltb 12 m ≡ t → s || t ≡ true
    go true p t q = refl
    go false p true q = refl
    go false p false q = absurd (omega (arith, has-days (leap_year y) m (ltb-false m 1 p) (ltb-false 12 m q), e))

a-month-number : (b : Bool) (m : ℕ) → (lengths b m ≡ 0 → ⊥) → lt_z (pos m) (pos 1) || lt_z (pos 12) (pos m) ≡ false
unfolding lengths
a-month-number b = numbers (λ m. (lengths b m ≡ 0 → ⊥) → lt_z (pos m) (pos 1) || lt_z (pos 12) (pos m) ≡ false) (λ e. absurd (e refl)) (λ e. refl) (λ e. refl)
    (λ e. refl) (λ e. refl) (λ e. refl) (λ e. refl) (λ e. refl) (λ e. refl) (λ e. refl) (λ e. refl) (λ e. refl) (λ e. refl) (λ n e. absurd (e refl))

pub a-month : (y m : ℤ) → (days_in_month y m ≡ 0 → ⊥) → lt_z m (pos 1) || lt_z (pos 12) m ≡ false
unfolding days_in_month
a-month y (pos m) e = a-month-number (leap_year y) m e
a-month y (negsuc m) e = absurd (e refl)

-- ---- each refusal by its test
module _ (y m d : ℤ) where
  pub year-refused : lt_z y (negsuc 4798) ≡ true → refusal 1 ≡ valid_date y m d
  unfolding valid_date
  year-refused p = rw p

  pub month-refused : lt_z y (negsuc 4798) ≡ false → days_in_month y m ≡ 0 → refusal 2 ≡ valid_date y m d
  unfolding valid_date
  month-refused p q = rw (p, no_month y m q)

  pub low-day-refused : lt_z y (negsuc 4798) ≡ false → (days_in_month y m ≡ 0 → ⊥) → lt_z d (pos 1) ≡ true → refusal 3 ≡ valid_date y m d
  unfolding valid_date
  low-day-refused p q r = rw (p, a-month y m q, r)

  pub high-day-refused : lt_z y (negsuc 4798) ≡ false → (days_in_month y m ≡ 0 → ⊥) → lt_z d (pos 1) ≡ false → lt_z (pos (days_in_month y m)) d ≡ true
      → refusal 3 ≡ valid_date y m d
  unfolding valid_date
  high-day-refused p q r s = rw (p, a-month y m q, r, s)

  pub not_refused : lt_z y (negsuc 4798) ≡ false → (days_in_month y m ≡ 0 → ⊥) → lt_z d (pos 1) ≡ false → lt_z (pos (days_in_month y m)) d ≡ false
      → answer tt ≡ valid_date y m d
  unfolding valid_date
  not_refused p q r s = rw (p, a-month y m q, r, s)

-- the day against the last of its month
pub past-last : (n k : ℕ) (d : ℤ) → lt_z d (pos 1) ≡ false → k ≡ n → k < nat_abs d → lt_z (pos n) d ≡ true
past-last n k d p e h = rw (at_least_one d p).0 (lt-ltb n (nat_abs d) (omega arith))

pub up_to_last : (n k : ℕ) (d : ℤ) → lt_z d (pos 1) ≡ false → k ≡ n → nat_abs d ≤ k → lt_z (pos n) d ≡ false
up_to_last n k d p e h = rw (at_least_one d p).0 (le-ltb n (nat_abs d) (omega arith))

-- ---- a date that is not refused
all-false : (a b c d e : Bool) → ◌≡◌ {A = Outcome Unit} (cond a (refusal 1) (cond (b || c) (refusal 2) (cond (d || e) (refusal 3) (answer tt)))) (answer tt)
    → (a ≡ false) × (b ≡ false) × (c ≡ false) × (d ≡ false) × (e ≡ false)
all-false true b c d e h = let z : ◌≡◌ {A = ℕ} 0 1 = cc in absurd (omega arith)
all-false false true c d e h = let z : ◌≡◌ {A = ℕ} 0 1 = cc in absurd (omega arith)
all-false false false true d e h = let z : ◌≡◌ {A = ℕ} 0 1 = cc in absurd (omega arith)
all-false false false false true e h = let z : ◌≡◌ {A = ℕ} 0 1 = cc in absurd (omega arith)
all-false false false false false true h = let z : ◌≡◌ {A = ℕ} 0 1 = cc in absurd (omega arith)
all-false false false false false false h = (refl, refl, refl, refl, refl)

at_most : (n : ℕ) (z : ℤ) → lt_z z (pos 1) ≡ false → lt_z (pos n) z ≡ false → nat_abs z ≤ n
at_most n (pos k) p q = ltb-false n k q
at_most n (negsuc k) p q = let z : ◌≡◌ {A = ℕ} 0 1 = cc in absurd (omega arith)

pub record Accepted (y m d : ℤ) : Type 0 where
  pub year : lt_z y (negsuc 4798) ≡ false
  pub m-sign : lt_z m (pos 1) ≡ false
  pub m_low : 1 ≤ nat_abs m
  pub m_high : nat_abs m ≤ 12
  pub d_sign : lt_z d (pos 1) ≡ false
  pub d_low : 1 ≤ nat_abs d
  pub d_high : nat_abs d ≤ month_length y (nat_abs m)

pub date-accepted : (y m d : ℤ) → valid_date y m d ≡ answer tt → Accepted y m d
unfolding valid_date
date-accepted y m d e =
    let f = all-false (lt_z y (negsuc 4798)) (lt_z m (pos 1)) (lt_z (pos 12) m) (lt_z d (pos 1)) (lt_z (pos (days_in_month y m)) d) e in
    let h : nat_abs d ≤ days_in_month y m = at_most (days_in_month y m) d f.3 f.4 in
    record {
      year = f.0;
      m-sign = f.1;
      m_low = (at_least_one m f.1).1;
      m_high = at_most 12 m f.1 f.2;
      d_sign = f.3;
      d_low = (at_least_one d f.3).1;
      d_high = subst (λ (n : ℕ). nat_abs d ≤ n) (month-days y m f.1) h;
    }

-- ---- a date of the calendar is refused only for its year
pub in_calendar_valid : (t : CalendarDate) → InCalendar t → lt_z t.year (negsuc 4798) ≡ false
    → valid_date t.year (pos t.month) (pos t.day) ≡ answer tt
unfolding valid_date days_in_month
in_calendar_valid t g e =
    rw (
      e,
      le-ltb t.month 1 g.m_low,
      le-ltb 12 t.month g.m_high,
      le-ltb t.day 1 g.d_low,
      le-ltb (month_length t.year t.month) t.day g.d_high,
    )

-- ---- the machine hands a call its arguments read back from their bits
pub read-two : (y m : ℤ) → SFits w32 y → SFits w32 m → days_in_month (to_z w32 (of_z w32 y)) (to_z w32 (of_z w32 m)) ≡ days_in_month y m
read-two y m f g = λ i. days_in_month (to_z-of_z f i) (to_z-of_z g i)

-- what the check says, at a call
module _ (y m d : ℤ) (f : SFits w32 y) (g : SFits w32 m) (h : SFits w32 d) (r : Result Unit Refusal)
    (e : outcome r ≡ valid_date (to_z w32 (of_z w32 y)) (to_z w32 (of_z w32 m)) (to_z w32 (of_z w32 d))) where
  pub is-valid : r ≡ Ok tt → valid_date y m d ≡ answer tt
  unfolding outcome
  is-valid p = sym (ap outcome (sym p) ∙ e ∙ read-date valid_date y m d f g h)

  pub is-refused : (k : Refusal) → r ≡ Err k → valid_date y m d ≡ refusal (refusal_number k)
  unfolding outcome
  is-refused k p = sym (ap outcome (sym p) ∙ e ∙ read-date valid_date y m d f g h)

  pub by_check : r ≡ Ok tt → Accepted y m d
  by_check p = date-accepted y m d (is-valid p)
